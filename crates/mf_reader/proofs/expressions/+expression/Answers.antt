use Rattle.std.proofs.Common.{arith}
use Rattle.std.proofs.lemmas.Grind.{common_steps}
use Rattle.mf_reader.proofs.expressions.+expression.Goals as goal
use Rattle.mf_reader.proofs.Saying.{refuses_front}

pub minus-returns-in_err-left-in-len2 : goal.minus-returns-in_err-left-in-len2
minus-returns-in_err-left-in-len2 t c = grind (arith, common_steps, refuses_front)

pub quotient-returns-in_err-left-in-len2 : goal.quotient-returns-in_err-left-in-len2
quotient-returns-in_err-left-in-len2 t c = grind (arith, common_steps, refuses_front)
