use Rattle.std.proofs.Common.{arith}
use Rattle.std.proofs.lemmas.Grind.{common_steps}
use Rattle.mf_reader.proofs.effects.change.Goals as goal
use Rattle.mf_reader.proofs.Saying.{refuses_front}

pub returns-in_err-function-in-len2 : goal.returns-in_err-function-in-len2
returns-in_err-function-in-len2 c = grind (arith, common_steps, refuses_front)
