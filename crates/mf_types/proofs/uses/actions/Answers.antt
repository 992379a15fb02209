use Rattle.mf_types.specs.Tables.{declared_of}
use Rattle.mf_types.specs.Uses.{action_use_faults, in_domain}
use Rattle.mf_types.proofs.Walks.{items_more}
use Rattle.mf_types.proofs.uses.actions.Goals as goal

pub loop-action-preserved : goal.loop-action-preserved
loop-action-preserved c =
    items_more (action_use_faults (in_domain (declared_of c.args.tables.now))) c.args.actions.now c.loop-action.action-index c.action-item.result _ _ _ c.loop-action-test.true c.action-item.is c.in_ok-best.ensures c.loop-action.invariant
