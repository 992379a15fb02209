use Rattle.mf_bridge.proofs.ActionsMade.{live_actions}
use Rattle.mf_bridge.proofs.conditions.actions_are_live_instances.Goals as goal

pub returns : goal.returns
returns c = live_actions
