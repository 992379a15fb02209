use Rattle.mf_bridge.proofs.ConditionLaws.{goal_alike}
use Rattle.mf_bridge.proofs.conditions.goals_are_ground_goals.Goals as goal

pub returns : goal.returns
returns c = goal_alike
