use Rattle.mf_input.proofs.ResolvedFiles.{files_resolved}
use Rattle.mf_input.proofs.laws.task_is_resolved.Goals as goal

pub returns : goal.returns
returns c = files_resolved
