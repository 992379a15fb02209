-- What the resolution of two files answers: their task, or the fault that is named first.
use Rattle.std.specs.Prelude.{◌≡◌, Option, Some, None, Result, Ok, Err, []}
use Rattle.mf_model.specs.declared.form.Domain.{Domain}
use Rattle.mf_model.specs.declared.form.Problem.{Problem}
use Rattle.mf_model.specs.declared.task.TypedTask.{TypedTask}
use Rattle.mf_types.specs.declared.fault.NameFault.{NameFault}
use Rattle.mf_types.specs.declared.fault.NameFault.TheVariants as name
use Rattle.mf_types.specs.declared.least.Fault.{Fault}
use Rattle.mf_types.specs.declared.least.FaultKind.TheVariants as kind
use Rattle.mf_types.specs.AllFaults.{faults_of}
use Rattle.mf_types.specs.Faults.{IsLeast, fault_at}
use Rattle.mf_types.specs.Tasks.{IsTaskOf}

-- the fault that an error names; want of memory is none of a file
abbrev pub fault_named : NameFault → Option Fault
fault_named (name.Twice file span) = Some (fault_at kind.Twice file span)
fault_named (name.TypeCycle file span) = Some (fault_at kind.TypeCycle file span)
fault_named (name.UnknownName file span) = Some (fault_at kind.UnknownName file span)
fault_named (name.WrongCount file span) = Some (fault_at kind.WrongCount file span)
fault_named (name.WrongType file span) = Some (fault_at kind.WrongType file span)
fault_named (name.TooMany file span) = Some (fault_at kind.TooMany file span)
fault_named (name.WideNumber file span) = Some (fault_at kind.WideNumber file span)
fault_named (name.NotLinear file span) = Some (fault_at kind.NotLinear file span)
fault_named name.Memory = None

-- an error names the fault that comes first; want of memory says nothing
abbrev pub NamesFirst : Domain → Problem → Option Fault → Type 0
NamesFirst d p (Some fault) = IsLeast (faults_of d p) fault
NamesFirst d p None = Unit {0}

-- no fault stands, and this is the task
pub record IsResolved (d : Domain) (p : Problem) (task : TypedTask) : Type 0 where
  pub clean : faults_of d p ≡ []
  pub task_of : IsTaskOf d p task

abbrev pub Answers : Domain → Problem → Result TypedTask NameFault → Type 0
Answers d p (Ok task) = IsResolved d p task
Answers d p (Err error) = NamesFirst d p (fault_named error)
