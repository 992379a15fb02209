use Rattle.std.proofs.Common.{◌≡◌, ◌+◌, ◌*◌, drop, map}
use Rattle.mf_model.specs.declared.form.RawEffect.{size-RawEffect}
use Rattle.mf_types.specs.Conditions.{all_faults}
use Rattle.mf_types.specs.Effects.{effect_faults}
use Rattle.mf_types.specs.Faults.{after}
use Rattle.mf_types.specs.Sites.{site_of}
use Rattle.mf_types.proofs.effects.+effect.Given as goal

abbrev pub decreases-effect : goal.decreases-effect
decreases-effect l = 10 * goal.size-effect l

abbrev pub decreases-effects : goal.decreases-effects
decreases-effects l = 10 * goal.size-effects l + 5

abbrev pub decreases-when : goal.decreases-when
decreases-when l = 10 * size-RawEffect l.part.now + 5

abbrev pub decreases-each : goal.decreases-each
decreases-each l = 10 * goal.size-each l + 5

abbrev pub invariant-effects-loop-part : goal.invariant-effects-loop-part
invariant-effects-loop-part l = record {
  value : after l.best (all_faults (map (effect_faults (site_of l.site)) (drop l.part-index l.parts)) l.fn.scope) ≡ after l.fn.best (all_faults (map (effect_faults (site_of l.site)) l.parts) l.fn.scope);
  same : l.scope ≡ l.fn.scope;
}
