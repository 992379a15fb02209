use Rattle.std.proofs.Common.{◌≡◌, ◌+◌, ◌*◌, drop}
use Rattle.mf_model.specs.declared.form.RawEffect.{size-RawEffect}
use Rattle.mf_types.specs.Gives.{with_front}
use Rattle.mf_types.specs.Tables.{declared_of}
use Rattle.mf_types.specs.Typing.{effects_of}
use Rattle.mf_types.proofs.building.effects.+effect.Given as goal

abbrev pub decreases-effect : goal.decreases-effect
decreases-effect l = 10 * goal.size-effect l

abbrev pub decreases-boxed : goal.decreases-boxed
decreases-boxed l = 10 * goal.size-boxed l + 1

abbrev pub decreases-inner : goal.decreases-inner
decreases-inner l = 10 * goal.size-inner l + 2

abbrev pub decreases-effects : goal.decreases-effects
decreases-effects l = 10 * goal.size-effects l + 5

abbrev pub decreases-group : goal.decreases-group
decreases-group l = 10 * goal.size-group l + 6

abbrev pub decreases-each : goal.decreases-each
decreases-each l = 10 * goal.size-each l + 3

abbrev pub decreases-when : goal.decreases-when
decreases-when l = 10 * size-RawEffect l.raw.now + 3

abbrev pub invariant-effects-loop-raw : goal.invariant-effects-loop-raw
invariant-effects-loop-raw l = record {
  same : l.binders ≡ l.fn.binders;
  value : with_front l.out (effects_of (declared_of l.tables) (drop l.raw-index l.raws) l.fn.binders) ≡ effects_of (declared_of l.tables) l.raws l.fn.binders;
}
