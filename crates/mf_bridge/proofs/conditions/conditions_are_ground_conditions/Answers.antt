use Rattle.mf_bridge.proofs.ConditionLaws.{condition_alike}
use Rattle.mf_bridge.proofs.conditions.conditions_are_ground_conditions.Goals as goal

pub returns : goal.returns
returns c = condition_alike
