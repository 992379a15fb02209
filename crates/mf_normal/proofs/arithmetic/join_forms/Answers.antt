use Rattle.mf_normal.proofs.Forms.{joined_difference, joined_sum, makes_defined}
use Rattle.mf_normal.proofs.arithmetic.join_forms.Goals as goal

pub returns-in-Sum : goal.returns-in-Sum
returns-in-Sum c = makes_defined _ _ c.sum.result _ (joined_sum c.args.operation c.args.left c.args.right c.in-Sum.is) c.sum.ensures c.some.ensures

pub returns-in-Difference : goal.returns-in-Difference
returns-in-Difference c =
    makes_defined _ _ c.difference.result _ (joined_difference c.args.operation c.args.left c.args.right c.in-Difference.is) c.difference.ensures c.some-in-Difference.ensures
