use Rattle.mf_packed.proofs.NumberedEffects.{task_numbered}
use Rattle.mf_packed.proofs.laws.packed_tasks_are_numbered.Goals as goal

pub returns : goal.returns
returns c = task_numbered
