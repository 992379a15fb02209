use Rattle.mf_types.specs.DeclarationFaults.{action_parameter_faults}
use Rattle.mf_types.specs.Sites.{site_of}
use Rattle.mf_types.proofs.Walks.{items_more}
use Rattle.mf_types.proofs.declarations.action_parameters.Goals as goal

pub loop-action-preserved : goal.loop-action-preserved
loop-action-preserved c =
    items_more (action_parameter_faults (site_of c.args.site.now)) c.args.actions.now c.loop-action.action-index c.action-item.result c.loop-action.best c.in_ok-best.best _
    c.loop-action-test.true c.action-item.is
    c.in_ok-best.ensures
    c.loop-action.invariant
