use Rattle.std.proofs.Common.{refl}
use Rattle.mf_normal.proofs.Forms.{makes_defined, product_left, product_right}
use Rattle.mf_normal.proofs.arithmetic.product.Goals as goal

pub returns-then-is_empty : goal.returns-then-is_empty
returns-then-is_empty c =
    makes_defined _ _ c.scaled.result _ (product_right c.args.left.now c.args.right.now (c.if-is_empty.ensures.0 refl)) c.scaled.ensures c.some.ensures

pub returns-then-is_empty-2 : goal.returns-then-is_empty-2
returns-then-is_empty-2 c =
    makes_defined _ _ c.scaled-then-is_empty-2.result _ (product_left c.args.left.now c.args.right.now (c.if-is_empty-2.ensures.0 refl) c.if-is_empty.ensures.1) c.scaled-then-is_empty-2.ensures c.some-then-is_empty-2.ensures
