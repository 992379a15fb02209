use Rattle.std.proofs.Common.{◌-◌, sym, ap, ◌∙◌, Some, arith}
use Rattle.mf_fraction.specs.Exact.{whole}
use Rattle.mf_store.proofs.Words.{value_of-whole, value_of-none, value_of-negative, value_of-fraction, natural_read, negative_read}
use Rattle.mf_store.proofs.word.unpacked.Goals as goal

pub returns-then-word-le-GREATEST : goal.returns-then-word-le-GREATEST
returns-then-word-le-GREATEST c =
    ap Some (c.whole_number.ensures ∙ ap whole (natural_read c.args.word (omega arith))) ∙ sym (value_of-whole c.args.fractions.now c.args.word (omega arith))

pub returns-then-word-le-UNDEFINED : goal.returns-then-word-le-UNDEFINED
returns-then-word-le-UNDEFINED c = sym (value_of-none c.args.fractions.now c.args.word (omega arith) (omega arith))

pub returns-then-word-lt-FIRST_FRACTION : goal.returns-then-word-lt-FIRST_FRACTION
returns-then-word-lt-FIRST_FRACTION c =
    ap Some (c.whole_number-then-word-lt-FIRST_FRACTION.ensures ∙ ap whole (negative_read (c.args.word - 9223372036854775808) (omega arith)))
    ∙ sym (value_of-negative c.args.fractions.now c.args.word (omega arith) (omega arith))

pub returns : goal.returns
returns c = c.fraction_at.ensures ∙ sym (value_of-fraction c.args.fractions.now c.args.word (omega arith))
