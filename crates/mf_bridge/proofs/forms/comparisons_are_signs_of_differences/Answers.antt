use Rattle.mf_bridge.proofs.Expressions.{comparison_is_sign}
use Rattle.mf_bridge.proofs.forms.comparisons_are_signs_of_differences.Goals as goal

pub returns : goal.returns
returns c = comparison_is_sign
