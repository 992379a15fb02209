use Rattle.std.proofs.Common.{refl}
use Rattle.mf_normal.proofs.Forms.{makes_defined, quotient_some}
use Rattle.mf_normal.proofs.arithmetic.quotient.Goals as goal

pub returns-in-Some : goal.returns-in-Some
returns-in-Some c =
    makes_defined _ _ c.scaled.result _ (quotient_some c.args.left.now c.args.right.now c.in-Some.factor c.reciprocal.result (c.if-not-is_empty.ensures.0 refl) c.reciprocal.ensures c.in-Some.is) c.scaled.ensures c.some.ensures
