use Rattle.std.proofs.Common.{◌∙◌}
use Rattle.mf_fraction.proofs.Operations.{cmp_short, cmp_long, cmp_equal}
use Rattle.mf_fraction.proofs.order.cmp.Goals as goal

pub returns-then-a-b-clause-order : goal.returns-then-a-b-clause-order
returns-then-a-b-clause-order c =
    c.cmp.ensures ∙ cmp_short c.args.a c.args.b _ _ _ _ c.a.view_is c.b.view_is c.a.invariant.positive c.if-a-b.true

pub returns-then-a-b-clause-equal : goal.returns-then-a-b-clause-equal
returns-then-a-b-clause-equal c =
    cmp_equal c.args.a c.args.b _ _ _ _ c.cmp.result c.a.view_is c.b.view_is c.a.invariant c.b.invariant (c.cmp.ensures ∙ cmp_short c.args.a c.args.b _ _ _ _ c.a.view_is c.b.view_is c.a.invariant.positive c.if-a-b.true)

pub returns-clause-order : goal.returns-clause-order
returns-clause-order c =
    c.cmp-2.ensures ∙ cmp_long c.args.a c.args.b _ _ _ _ c.times-left.result c.times-right.result c.a.view_is c.b.view_is c.a.invariant.numerator_size c.b.invariant.numerator_size c.times-left.ensures.value c.times-right.ensures.value c.times-left.ensures.size c.times-right.ensures.size

pub returns-clause-equal : goal.returns-clause-equal
returns-clause-equal c =
    cmp_equal c.args.a c.args.b _ _ _ _ c.cmp-2.result c.a.view_is c.b.view_is c.a.invariant c.b.invariant (c.cmp-2.ensures ∙ cmp_long c.args.a c.args.b _ _ _ _ c.times-left.result c.times-right.result c.a.view_is c.b.view_is c.a.invariant.numerator_size c.b.invariant.numerator_size c.times-left.ensures.value c.times-right.ensures.value c.times-left.ensures.size c.times-right.ensures.size)
