use Rattle.mf_validator.proofs.Exactness.{says-verdict, verdict-says}
use Rattle.mf_validator.proofs.laws.verdicts_are_exact.Goals as goal

pub returns : goal.returns
returns c = λ task plan said within. (verdict-says task plan said within, says-verdict task plan said)
