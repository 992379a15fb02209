use Rattle.std.proofs.Common.{◌<◌, ◌≤◌, length, sym, ◌∙◌, arith}
use Rattle.mf_eval.proofs.TermObjects.{after_objects, after_terms}
use Rattle.mf_eval.proofs.order.compare_objects.Goals as goal

pub returns-then-at-terms : goal.returns-then-at-terms
returns-then-at-terms c =
    sym (after_terms c.args.binding.now c.args.objects.now c.args.terms.now c.loop-at.at c.loop-at-test.true c.if-at-terms.true) ∙ c.loop-at.invariant.rest

pub returns-then-objects-terms : goal.returns-then-objects-terms
returns-then-objects-terms c =
    let objects = c.args.objects.now in
    let terms = c.args.terms.now in
    let i = c.loop-at.at in
    let past : length objects ≤ i = omega (arith, c.loop-at-test.false) in
    let within : i < length terms = omega (arith, c.loop-at.auto.at-end, c.if-objects-terms.true) in
    sym (after_objects c.args.binding.now objects terms i past within) ∙ c.loop-at.invariant.rest
