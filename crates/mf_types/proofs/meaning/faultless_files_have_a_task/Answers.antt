use Rattle.mf_types.specs.Names.{declared_by}
use Rattle.mf_types.specs.Tasks.{task_of}
use Rattle.mf_types.proofs.TaskReadings.{task_sound}
use Rattle.mf_types.proofs.There.{there}
use Rattle.mf_types.proofs.ThereTask.{task_there}
use Rattle.mf_types.proofs.meaning.faultless_files_have_a_task.Goals as goal

pub returns : goal.returns
returns c d p clean =
    let found = there (task_of (declared_by d p) d p) (task_there d p clean) in
    (found.0, task_sound (declared_by d p) d p found.0 found.1)
