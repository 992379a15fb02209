use Rattle.mf_types.specs.DeclarationFaults.{header_parameter_faults}
use Rattle.mf_types.specs.Sites.{site_of}
use Rattle.mf_types.proofs.Walks.{items_more}
use Rattle.mf_types.proofs.declarations.header_parameters.Goals as goal

pub loop-header-preserved : goal.loop-header-preserved
loop-header-preserved c =
    items_more (header_parameter_faults (site_of c.args.site.now)) c.args.headers.now c.loop-header.header-index c.header-item.result c.loop-header.best c.in_ok-best.best _
    c.loop-header-test.true c.header-item.is
    c.in_ok-best.ensures
    c.loop-header.invariant
