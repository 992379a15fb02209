use Rattle.mf_types.specs.Sites.{site_of}
use Rattle.mf_types.specs.Uses.{closed_faults}
use Rattle.mf_types.proofs.Walks.{items_more}
use Rattle.mf_types.proofs.uses.facts.Goals as goal

pub loop-fact-preserved : goal.loop-fact-preserved
loop-fact-preserved c =
    items_more (closed_faults (site_of c.args.site.now)) c.args.facts.now c.loop-fact.fact-index c.fact-item.result _ _ _ c.loop-fact-test.true c.fact-item.is c.in_ok-best.ensures c.loop-fact.invariant
