use Rattle.mf_bridge.proofs.ConditionLaws.{precondition_alike}
use Rattle.mf_bridge.proofs.conditions.preconditions_are_ground_conditions.Goals as goal

pub returns : goal.returns
returns c = precondition_alike
