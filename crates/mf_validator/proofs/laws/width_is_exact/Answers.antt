use Rattle.mf_validator.proofs.Exactness.{verdict-wide, wide-verdict}
use Rattle.mf_validator.proofs.laws.width_is_exact.Goals as goal

pub returns : goal.returns
returns c = λ task plan step. (verdict-wide task plan step, wide-verdict task plan step)
