use Rattle.std.proofs.Common.{◌≡◌, ◌∙◌, length, rules}
use Rattle.mf_types.specs.Conditions.{cond_faults}
use Rattle.mf_types.specs.Effects.{effect_faults}
use Rattle.mf_types.specs.Sites.{site_of}
use Rattle.mf_types.proofs.Walks.{both_parts, parts_more, quantified_is}
use Rattle.mf_types.proofs.effects.+effect.Goals as goal

pub effects-loop-part-preserved : goal.effects-loop-part-preserved
effects-loop-part-preserved t c = record {
  value = parts_more (effect_faults (site_of c.args.site.now)) c.args.parts.now c.loop-part.part-index c.part-item.result c.args.scope.now _ _ _ _ c.loop-part-test.true c.part-item.is c.loop-part.invariant.same c.in_ok-best.ensures.value c.loop-part.invariant.value;
  same = c.in_ok-best.ensures.same ∙ c.loop-part.invariant.same;
}

pub when-returns-clause-value : goal.when-returns-clause-value
when-returns-clause-value t c =
    both_parts c.effect.result (cond_faults (site_of c.args.site.now) c.args.guard.now) (effect_faults (site_of c.args.site.now) c.args.part.now) c.args.scope.now _ _ _ c.in_ok-best.ensures.same c.in_ok-best.ensures.value c.effect.ensures.value

pub each-returns-clause-value : goal.each-returns-clause-value
each-returns-clause-value t c =
    let few : c.len-outer.result ≡ length c.args.scope.now = search rules in
    quantified_is (site_of c.args.site.now) c.args.items.now (effect_faults (site_of c.args.site.now) c.args.part.now) c.args.scope.now _ c.len-outer.result _ _ _ few c.in_ok-best.ensures c.in_ok-enter.ensures c.in_ok-best-2.ensures.value
