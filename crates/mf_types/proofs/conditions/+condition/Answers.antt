use Rattle.std.proofs.Common.{◌≡◌, ◌∙◌, length, rules}
use Rattle.mf_types.specs.Conditions.{cond_faults}
use Rattle.mf_types.specs.Sites.{site_of}
use Rattle.mf_types.proofs.Walks.{both_parts, parts_more, quantified_is}
use Rattle.mf_types.proofs.conditions.+condition.Goals as goal

pub conditions-loop-part-preserved : goal.conditions-loop-part-preserved
conditions-loop-part-preserved t c = record {
  value = parts_more (cond_faults (site_of c.args.site.now)) c.args.parts.now c.loop-part.part-index c.part-item.result c.args.scope.now _ _ _ _ c.loop-part-test.true c.part-item.is c.loop-part.invariant.same c.in_ok-best.ensures.value c.loop-part.invariant.value;
  same = c.in_ok-best.ensures.same ∙ c.loop-part.invariant.same;
}

pub implication-returns-clause-value : goal.implication-returns-clause-value
implication-returns-clause-value t c =
    both_parts c.condition-2.result (cond_faults (site_of c.args.site.now) c.args.left.now) (cond_faults (site_of c.args.site.now) c.args.right.now) c.args.scope.now _ _ _ c.in_ok-best.ensures.same c.in_ok-best.ensures.value c.condition-2.ensures.value

pub quantifier-returns-clause-value : goal.quantifier-returns-clause-value
quantifier-returns-clause-value t c =
    let few : c.len-outer.result ≡ length c.args.scope.now = search rules in
    quantified_is (site_of c.args.site.now) c.args.items.now (cond_faults (site_of c.args.site.now) c.args.part.now) c.args.scope.now _ c.len-outer.result _ _ _ few c.in_ok-best.ensures c.in_ok-enter.ensures c.in_ok-best-2.ensures.value
