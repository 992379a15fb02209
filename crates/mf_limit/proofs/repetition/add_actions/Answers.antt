use Rattle.mf_task.specs.LimitClosure.{action_gains}
use Rattle.mf_task.specs.Rows.{sight_of}
use Rattle.mf_limit.proofs.Growing.{action-monotone, grows-next}
use Rattle.mf_limit.proofs.repetition.add_actions.Goals as goal

pub loop-action-preserved : goal.loop-action-preserved
loop-action-preserved c =
    let task = c.args.scene.now.task.now in
    let sight = sight_of c.args.scene.now.row.now in
    let action = c.action-item.result in
    grows-next (action_gains task sight) c.args.actions.now c.loop-action.action-index action c.loop-action-test.true c.action-item.is c.args.sets.now c.loop-action.sets c.add_action-is_new.new.sets c.loop-action.is_new c.add_action-is_new.result
    (action-monotone task sight action) c.loop-action.invariant c.add_action-is_new.ensures
