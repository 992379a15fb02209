use Rattle.mf_types.proofs.ValidTask.{valid_task}
use Rattle.mf_types.proofs.meaning.task_is_valid.Goals as goal

pub returns : goal.returns
returns c = valid_task
