use Rattle.mf_plain.proofs.Lawful.{no_plan_found}
use Rattle.mf_plain.proofs.laws.no_plan_exists.Goals as goal

pub returns : goal.returns
returns c = no_plan_found
