use Rattle.mf_values.proofs.ZeroValues.{zero-value}
use Rattle.mf_values.proofs.laws.values_are_zero_at_goals.Goals as goal

pub returns : goal.returns
returns c = zero-value
