use Rattle.std.proofs.Common.{sym, ◌∙◌, arith}
use Rattle.mf_plain.proofs.Comparing.{terms_differ, terms_agree, terms_short, terms_all}
use Rattle.mf_plain.proofs.terms.stand_for.Goals as goal

pub returns-then-i-objects : goal.returns-then-i-objects
returns-then-i-objects c = sym (terms_short c.args.binding.now c.args.terms.now c.args.objects.now c.loop-i.i c.loop-i-test.true c.if-i-objects.true) ∙ c.loop-i.invariant.rest

pub returns-then-object-objects : goal.returns-then-object-objects
returns-then-object-objects c =
    sym (terms_differ c.args.binding.now c.args.terms.now c.args.objects.now c.loop-i.i _ c.object.result c.loop-i-test.true c.if-i-objects.false c.object.ensures c.if-object-objects.true) ∙ c.loop-i.invariant.rest

pub loop-i-preserved : goal.loop-i-preserved
loop-i-preserved c = record {
  within = omega arith;
  rest = terms_agree c.args.binding.now c.args.terms.now c.args.objects.now c.loop-i.i _ c.object.result c.loop-i-test.true c.if-i-objects.false c.object.ensures c.if-object-objects.false ∙ c.loop-i.invariant.rest;
}

pub returns : goal.returns
returns c = terms_all c.args.binding.now c.args.terms.now c.args.objects.now c.loop-i.i (omega arith) c.loop-i.invariant.within ∙ c.loop-i.invariant.rest
