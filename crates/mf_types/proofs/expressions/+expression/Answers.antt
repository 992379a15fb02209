use Rattle.std.proofs.Common.{arith, ◌∙◌, ap}
use Rattle.mf_types.specs.declared.expressions.Examined.{Examined}
use Rattle.mf_types.specs.Expressions.{changes, seen}
use Rattle.mf_types.specs.Sites.{site_of}
use Rattle.mf_types.proofs.Walks.{count_more, faults_more}
use Rattle.mf_types.proofs.expressions.+expression.Goals as goal

pub expressions-loop-part-preserved : goal.expressions-loop-part-preserved
expressions-loop-part-preserved t c = record {
  few = omega (arith, c.changes-changing.ensures.one);
  count = count_more (seen (site_of c.args.site.now)) c.args.parts.now c.loop-part.part-index c.part-item.result _ _ _ c.loop-part-test.true c.part-item.is (c.changes-changing.ensures.value ∙ ap (λ (e : Examined). changes e.constant) c.expression-next.ensures) c.loop-part.invariant.count;
  best = faults_more (seen (site_of c.args.site.now)) c.args.parts.now c.loop-part.part-index c.part-item.result c.args.scope.now _ _ _ c.loop-part-test.true c.part-item.is (ap (λ (e : Examined). e.best) c.expression-next.ensures) c.loop-part.invariant.best;
}
