use Rattle.std.proofs.Common.{arith}
use Rattle.std.proofs.lemmas.Grind.{common_steps}
use Rattle.mf_reader.proofs.effects.+effect.Goals as goal
use Rattle.mf_reader.proofs.Saying.{refuses_front}

pub universal-returns-in_err-variables-in-len2 : goal.universal-returns-in_err-variables-in-len2
universal-returns-in_err-variables-in-len2 t c = grind (arith, common_steps, refuses_front)
