use Rattle.std.proofs.Common.{sym, ◌∙◌}
use Rattle.mf_normal.proofs.Numbers.{opposite_is}
use Rattle.mf_normal.proofs.arithmetic.opposite.Goals as goal

pub returns-clause-value : goal.returns-clause-value
returns-clause-value c = c.neg.ensures.value ∙ sym (opposite_is c.args.number c.stored_laws.ensures.proper)
