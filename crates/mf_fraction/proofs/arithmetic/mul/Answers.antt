use Rattle.std.proofs.Common.{ap, ◌∙◌, FitsSigned, rules}
use Rattle.std.specs.Int.{w128}
use Rattle.mf_fraction.specs.Checked.{checked}
use Rattle.mf_fraction.proofs.Operations.{mul_short, mul_long}
use Rattle.mf_fraction.proofs.arithmetic.mul.Goals as goal

pub returns-then-b-eq1 : goal.returns-then-b-eq1
returns-then-b-eq1 c =
    let f : FitsSigned w128 c.times_signed-top.result = search rules in
    c.whole_fraction.ensures ∙ ap checked (mul_short c.args.a c.args.b c.a.inside.numerator c.b.inside.numerator c.a.inside.denominator c.b.inside.denominator c.times_signed-top.result c.a.view_is c.b.view_is c.a.invariant.numerator_size c.b.invariant.numerator_size f c.times_signed-top.ensures.value c.if-a-eq1.true c.if-b-eq1.true)

pub returns : goal.returns
returns c =
    let f : FitsSigned w128 c.times_signed-top.result = search rules in
    c.lowest.ensures ∙ ap checked (mul_long c.args.a c.args.b c.a.inside.numerator c.b.inside.numerator c.a.inside.denominator c.b.inside.denominator c.times_signed-top.result c.times_sizes.result c.a.view_is c.b.view_is c.a.invariant.numerator_size c.b.invariant.numerator_size f c.times_signed-top.ensures.value c.times_sizes.ensures)
