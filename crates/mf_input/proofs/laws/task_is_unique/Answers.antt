use Rattle.mf_input.proofs.OneTask.{only_task}
use Rattle.mf_input.proofs.laws.task_is_unique.Goals as goal

pub returns : goal.returns
returns c = only_task
