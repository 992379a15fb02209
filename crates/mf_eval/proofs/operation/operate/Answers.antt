use Rattle.mf_eval.proofs.Kept.{operated_sum, operated_difference, operated_product}
use Rattle.mf_eval.proofs.operation.operate.Goals as goal

pub returns-in-Sum : goal.returns-in-Sum
returns-in-Sum c = operated_sum _ _ _ _ _ _ _ c.in-Sum.is c.in-Some-Some.is-0 c.in-Some-Some.is-1 c.add.ensures c.defined.ensures

pub returns-in-Difference : goal.returns-in-Difference
returns-in-Difference c = operated_difference _ _ _ _ _ _ _ c.in-Difference.is c.in-Some-Some.is-0 c.in-Some-Some.is-1 c.sub.ensures c.defined-in-Difference.ensures

pub returns-in-Product : goal.returns-in-Product
returns-in-Product c = operated_product _ _ _ _ _ _ _ c.in-Product.is c.in-Some-Some.is-0 c.in-Some-Some.is-1 c.mul.ensures c.defined-in-Product.ensures
