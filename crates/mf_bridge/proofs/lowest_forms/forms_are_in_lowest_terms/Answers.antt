use Rattle.mf_bridge.proofs.LowestForms.{forms_are_proper}
use Rattle.mf_bridge.proofs.lowest_forms.forms_are_in_lowest_terms.Goals as goal

pub returns : goal.returns
returns c = forms_are_proper
