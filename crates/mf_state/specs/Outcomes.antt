-- What the calls answer.
use Rattle.std.specs.Prelude.{◌≡◌, Some, None, Result, Ok, Err}
use Rattle.mf_store.specs.Rows.{RowLists}
use Rattle.mf_task.specs.declared.task.Task.{Task}
use Rattle.mf_task.specs.Rows.{sight_of}
use Rattle.mf_task.specs.Width.{wide_place}
use Rattle.mf_state.specs.declared.fault.StartFault.{StartFault}
use Rattle.mf_state.specs.declared.fault.StartFault.TheVariants as start_fault

-- the start's row, which is wide nowhere, or where it is wide
abbrev pub Starts : Task → Result RowLists StartFault → Type 0
Starts task (Ok row) = (row ≡ task.start) × (wide_place task (sight_of task.start) ≡ None)
Starts task (Err (start_fault.Wide place)) = wide_place task (sight_of task.start) ≡ Some place
Starts task (Err start_fault.Memory) = Unit {0}
