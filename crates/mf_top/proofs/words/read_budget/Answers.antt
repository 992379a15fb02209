use Rattle.std.proofs.Common.{◌+◌, ◌-◌, ◌*◌, ◌<◌, get_or, sym, ◌∙◌}
use Rattle.mf_top.proofs.WordLemmas.{budget_of-large}
use Rattle.mf_top.proofs.words.read_budget.Goals as goal

pub returns-then-number-gt-GREATEST_BUDGET-clause-value : goal.returns-then-number-gt-GREATEST_BUDGET-clause-value
returns-then-number-gt-GREATEST_BUDGET-clause-value c =
    let word = c.args.word.now in
    let value : 1000000000000 < 10 * c.loop-byte.number + (get_or word c.loop-byte.byte-index 0 - 48) = rw (← c.from.ensures) c.if-number-gt-GREATEST_BUDGET.true in
    budget_of-large word c.loop-byte.byte-index c.loop-byte.number c.loop-byte-test.true (sym c.is_ascii_digit.ensures.value ∙ c.if-not-is_ascii_digit.false) value c.loop-byte.invariant.1
