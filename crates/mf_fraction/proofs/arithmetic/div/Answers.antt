use Rattle.std.proofs.Common.{FitsSigned, rules}
use Rattle.std.specs.Int.{w128}
use Rattle.mf_fraction.proofs.Operations.{bits_zero, bits_other, divisor_positive, div_long, quotient_zero, checked_ok, checked_wide}
use Rattle.mf_fraction.proofs.arithmetic.div.Goals as goal

pub returns-then-b-eq0 : goal.returns-then-b-eq0
returns-then-b-eq0 c = quotient_zero c.args.a c.args.b _ _ c.b.view_is (bits_zero c.b.inside.numerator c.b.invariant.numerator_size c.if-b-eq0.true)

pub lowest-requires : goal.lowest-requires
lowest-requires c =
    divisor_positive c.b.inside.numerator c.a.inside.denominator c.unsigned_abs.result c.times_sizes-bottom.result c.b.invariant.numerator_size (bits_other c.b.inside.numerator c.if-b-eq0.false) c.a.invariant.positive c.unsigned_abs.ensures.value c.times_sizes-bottom.ensures

pub returns-in-Ok : goal.returns-in-Ok
returns-in-Ok c =
    let f : FitsSigned w128 c.turned.result = search rules in
    checked_ok _ _ _ (div_long c.args.a c.args.b c.a.inside.numerator c.b.inside.numerator c.a.inside.denominator c.b.inside.denominator c.times-top.result c.turned.result c.unsigned_abs.result c.times_sizes-bottom.result c.a.view_is c.b.view_is c.a.invariant.numerator_size c.b.invariant.numerator_size (bits_other c.b.inside.numerator c.if-b-eq0.false) c.times-top.ensures.value c.times-top.ensures.size c.unsigned_abs.ensures.value c.times_sizes-bottom.ensures f c.turned.ensures) c.in-Ok.ensures

pub returns-in-Err : goal.returns-in-Err
returns-in-Err c =
    let f : FitsSigned w128 c.turned.result = search rules in
    checked_wide _ _ _ (div_long c.args.a c.args.b c.a.inside.numerator c.b.inside.numerator c.a.inside.denominator c.b.inside.denominator c.times-top.result c.turned.result c.unsigned_abs.result c.times_sizes-bottom.result c.a.view_is c.b.view_is c.a.invariant.numerator_size c.b.invariant.numerator_size (bits_other c.b.inside.numerator c.if-b-eq0.false) c.times-top.ensures.value c.times-top.ensures.size c.unsigned_abs.ensures.value c.times_sizes-bottom.ensures f c.turned.ensures) c.in-Err.ensures
