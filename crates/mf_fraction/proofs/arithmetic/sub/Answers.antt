use Rattle.std.proofs.Common.{ap, ◌∙◌}
use Rattle.mf_fraction.specs.Checked.{checked}
use Rattle.mf_fraction.proofs.Operations.{sub_short, sub_long}
use Rattle.mf_fraction.proofs.arithmetic.sub.Goals as goal

pub returns-then-b-eq1 : goal.returns-then-b-eq1
returns-then-b-eq1 c =
    c.whole_fraction.ensures ∙ ap checked (sub_short c.args.a c.args.b c.a.inside.numerator c.b.inside.numerator c.a.inside.denominator c.b.inside.denominator c.from.result c.from-then-b-eq1.result c.a.view_is c.b.view_is c.a.invariant.numerator_size c.b.invariant.numerator_size c.from.ensures c.from-then-b-eq1.ensures c.if-a-eq1.true c.if-b-eq1.true)

pub returns : goal.returns
returns c =
    c.lowest.ensures ∙ ap checked (sub_long c.args.a c.args.b c.a.inside.numerator c.b.inside.numerator c.a.inside.denominator c.b.inside.denominator c.times-left.result c.times-right.result c.times_sizes.result c.a.view_is c.b.view_is c.a.invariant.numerator_size c.b.invariant.numerator_size c.times-left.ensures.value c.times-right.ensures.value c.times-left.ensures.size c.times-right.ensures.size c.times_sizes.ensures)
