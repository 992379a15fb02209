-- The task of two files of the grammar without faults is a resolved task.
use Rattle.std.proofs.Common.{◌≡◌, [], length, ap, sym, arith, ◌≤◌, ◌∙◌}
use Rattle.std.proofs.lemmas.List.{length-map}
use Rattle.mf_model.specs.declared.form.Domain.{Domain}
use Rattle.mf_model.specs.declared.form.Problem.{Problem}
use Rattle.mf_model.specs.declared.task.TypedTask.{TypedTask}
use Rattle.mf_model.specs.ResolvedTask.{IsResolvedTask}
use Rattle.mf_types.specs.AllFaults.{faults_of}
use Rattle.mf_types.specs.Names.{declared_by, kept_types, parent_in, type_names}
use Rattle.mf_types.specs.Tasks.{type_named, IsTaskOf}
use Rattle.mf_types.specs.Written.{IsWritten}
use Rattle.mf_types.proofs.ApartNames.{task_names}
use Rattle.mf_types.proofs.FlatEffects.{task_flat}
use Rattle.mf_types.proofs.LinearTask.{task_linear}
use Rattle.mf_types.proofs.RoomTask.{task_fits}
use Rattle.mf_types.proofs.StoredNumbers.{task_stored}
use Rattle.mf_types.proofs.TopType.{objects_have_top}
use Rattle.mf_types.proofs.ValidTask.{paired_length, valid_task}

few_types : (d : Domain) (p : Problem) (task : TypedTask) → IsTaskOf d p task → length task.types ≤ 10001
few_types d p task is =
    let declared = declared_by d p in
    let names = type_names d.types in
    let count : length declared.types ≡ length declared.parents = sym (length-map names (parent_in names (kept_types d.types))) in
    let same : length task.types ≡ length declared.types = ap length is.types ∙ paired_length type_named declared.types declared.parents count in
    let few : length declared.types ≤ 10001 = is.few.types in
    omega (arith, same, few)

pub resolved_task : (d : Domain) (p : Problem) (task : TypedTask) → IsWritten d p → faults_of d p ≡ [] → IsTaskOf d p task → IsResolvedTask task
resolved_task d p task written e is =
    let valid = valid_task d p task written is in
    record {
      valid = valid;
      limits = task_fits d p task valid e is;
      types = few_types d p task is;
      top = objects_have_top d p task e is;
      linear = task_linear d p task written e is;
      numbers = task_stored d p task written e is;
      flat = task_flat d p task written is;
      names = task_names d p task written e is;
    }
