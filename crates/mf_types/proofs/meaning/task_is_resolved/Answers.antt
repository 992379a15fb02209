use Rattle.mf_types.proofs.ResolvedTasks.{resolved_task}
use Rattle.mf_types.proofs.meaning.task_is_resolved.Goals as goal

pub returns : goal.returns
returns c = resolved_task
