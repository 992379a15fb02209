use Rattle.mf_types.specs.Names.{declared_by}
use Rattle.mf_types.proofs.TaskReadings.{one_task}
use Rattle.mf_types.proofs.meaning.task_is_unique.Goals as goal

pub returns : goal.returns
returns c d p = one_task (declared_by d p) d p
