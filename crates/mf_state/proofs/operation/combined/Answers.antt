use Rattle.mf_state.proofs.KeptValues.{combined_sum, combined_difference, combined_product}
use Rattle.mf_state.proofs.operation.combined.Goals as goal

pub returns-in-Increase : goal.returns-in-Increase
returns-in-Increase c = combined_sum _ _ _ _ _ c.defined.ensures c.in-Increase.is c.add.ensures

pub returns-in-Decrease : goal.returns-in-Decrease
returns-in-Decrease c = combined_difference _ _ _ _ _ c.defined-in-Decrease.ensures c.in-Decrease.is c.sub.ensures

pub returns-in-ScaleUp : goal.returns-in-ScaleUp
returns-in-ScaleUp c = combined_product _ _ _ _ _ c.defined-in-ScaleUp.ensures c.in-ScaleUp.is c.mul.ensures
