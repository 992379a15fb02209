use Rattle.mf_eval.proofs.Kept.{empty_product, empty_sum}
use Rattle.mf_eval.proofs.expression.empty.Goals as goal

pub returns-in-Product : goal.returns-in-Product
returns-in-Product c = empty_product _ _ _ c.in-Product.is c.whole.ensures c.defined.ensures

pub returns-in_default : goal.returns-in_default
returns-in_default c = empty_sum _ _ _ c.in_default.not-Product c.whole-in_default.ensures c.defined-in_default.ensures
