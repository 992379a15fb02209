use Rattle.mf_bridge.proofs.ApplicableActions.{applicable_alike}
use Rattle.mf_bridge.proofs.actions.actions_are_applicable_alike.Goals as goal

pub returns : goal.returns
returns c = applicable_alike
