use Rattle.mf_bridge.proofs.EffectLaws.{action_alike}
use Rattle.mf_bridge.proofs.effects.actions_fire_alike.Goals as goal

pub returns : goal.returns
returns c = action_alike
