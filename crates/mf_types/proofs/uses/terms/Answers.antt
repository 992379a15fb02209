use Rattle.mf_types.specs.Sites.{site_of}
use Rattle.mf_types.specs.Uses.{value_term_faults}
use Rattle.mf_types.proofs.Walks.{items_more}
use Rattle.mf_types.proofs.uses.terms.Goals as goal

pub loop-value-preserved : goal.loop-value-preserved
loop-value-preserved c =
    items_more (value_term_faults (site_of c.args.site.now)) c.args.values.now c.loop-value.value-index c.value-item.result _ _ _ c.loop-value-test.true c.value-item.is c.value_term-best.ensures c.loop-value.invariant
