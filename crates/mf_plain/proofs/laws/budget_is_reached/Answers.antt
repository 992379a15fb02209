use Rattle.mf_plain.proofs.Lawful.{budget_reached}
use Rattle.mf_plain.proofs.laws.budget_is_reached.Goals as goal

pub returns : goal.returns
returns c = budget_reached
