use Rattle.mf_bridge.proofs.EffectLaws.{effect_alike}
use Rattle.mf_bridge.proofs.effects.effects_fire_alike.Goals as goal

pub returns : goal.returns
returns c = effect_alike
