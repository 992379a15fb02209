use Rattle.mf_task.specs.LimitClosure.{effect_gains}
use Rattle.mf_task.specs.Rows.{sight_of}
use Rattle.mf_limit.proofs.Growing.{effect-monotone, grows-next}
use Rattle.mf_limit.proofs.repetition.add_effects.Goals as goal

pub loop-effect-preserved : goal.loop-effect-preserved
loop-effect-preserved c =
    let task = c.args.scene.now.task.now in
    let sight = sight_of c.args.scene.now.row.now in
    let effect = c.effect-item.result in
    grows-next (effect_gains task sight) c.args.effects.now c.loop-effect.effect-index effect c.loop-effect-test.true c.effect-item.is c.args.sets.now c.loop-effect.sets c.add_effect-is_new.new.sets c.loop-effect.is_new c.add_effect-is_new.result
    (effect-monotone task sight effect) c.loop-effect.invariant c.add_effect-is_new.ensures
