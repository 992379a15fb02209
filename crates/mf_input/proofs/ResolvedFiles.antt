-- The task of two files is a resolved task.
use Rattle.std.proofs.Common.{ℕ, Result, Ok, Err, List}
use Rattle.std.specs.Prelude.{IfOk}
use Rattle.mf_model.specs.declared.task.TypedTask.{TypedTask}
use Rattle.mf_model.specs.ResolvedTask.{IsResolvedTask}
use Rattle.mf_types.proofs.ResolvedTasks.{resolved_task}
use Rattle.mf_input.specs.declared.refusal.InputFault.{InputFault}
use Rattle.mf_input.specs.Files.{IsTaskOfFiles}
use Rattle.mf_input.specs.Refusals.{ReadsFiles}
use Rattle.mf_input.proofs.WrittenFiles.{files_written}

pub files_resolved : (domain problem : List ℕ) (task : TypedTask) → IsTaskOfFiles domain problem task → IsResolvedTask task
files_resolved domain problem task is =
    let in_domain = is.domain_file in
    let in_problem = is.problem_file in
    let written = files_written domain problem in_domain.tree in_problem.tree is.domain is.problem in_domain.is_tree in_problem.is_tree in_domain.form in_problem.form in
    resolved_task is.domain is.problem task written is.faultless is.task_of

-- the task that is read
pub read_resolved : (domain problem : List ℕ) (result : Result TypedTask InputFault) → ReadsFiles domain problem result → IfOk result IsResolvedTask
read_resolved domain problem (Ok task) reads = files_resolved domain problem task reads
read_resolved domain problem (Err fault) reads = tt
