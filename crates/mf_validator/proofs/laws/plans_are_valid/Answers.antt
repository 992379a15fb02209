use Rattle.mf_validator.proofs.Exactness.{plan-valid}
use Rattle.mf_validator.proofs.laws.plans_are_valid.Goals as goal

pub returns : goal.returns
returns c = plan-valid
