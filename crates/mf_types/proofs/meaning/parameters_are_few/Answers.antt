use Rattle.mf_types.proofs.FewParameters.{parameters_few}
use Rattle.mf_types.proofs.meaning.parameters_are_few.Goals as goal

pub returns : goal.returns
returns c = parameters_few
