use Rattle.mf_types.proofs.TopType.{objects_have_top}
use Rattle.mf_types.proofs.meaning.objects_have_the_top_type.Goals as goal

pub returns : goal.returns
returns c = objects_have_top
