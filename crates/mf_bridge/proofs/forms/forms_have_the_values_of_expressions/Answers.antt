use Rattle.mf_bridge.proofs.Expressions.{value_is_form_value}
use Rattle.mf_bridge.proofs.forms.forms_have_the_values_of_expressions.Goals as goal

pub returns : goal.returns
returns c = value_is_form_value
