use Rattle.std.proofs.Common.{refl, map, List}
use Rattle.std.specs.List.{flat_map}
use Rattle.mf_model.specs.declared.form.RawEffect.{RawEffect}
use Rattle.mf_types.specs.Names.{changed_by}
use Rattle.mf_types.specs.Tables.{entered}
use Rattle.mf_types.proofs.Firsts.{walked}
use Rattle.mf_types.proofs.changed.+add_changed.Goals as goal

pub add_changed_by_all-loop-effect-preserved : goal.add_changed_by_all-loop-effect-preserved
add_changed_by_all-loop-effect-preserved t c =
    walked (λ (effects : List RawEffect). flat_map (λ names. names) (map changed_by effects)) changed_by c.args.effects.now c.loop-effect.effect-index c.effect-item.result c.loop-effect.names c.add_changed.new.names (entered c.args.names.now (flat_map (λ names. names) (map changed_by c.args.effects.now)))
    (λ _ _. refl) c.loop-effect-test.true c.effect-item.is c.loop-effect.invariant c.in_ok-add_changed.ensures
