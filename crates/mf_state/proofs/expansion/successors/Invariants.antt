use Rattle.std.proofs.Common.{◌≡◌, ◌++◌, drop, false, true}
use Rattle.std.specs.List.{All, list_all, list_any}
use Rattle.mf_task.specs.Rows.{sight_of}
use Rattle.mf_task.specs.Width.{is_wide_action, way_out, way_out_from}
use Rattle.mf_state.specs.NextRows.{IsNext, applicable_from, instances_of}
use Rattle.mf_state.specs.PackedTasks.{is_sound_action}
use Rattle.mf_state.proofs.expansion.successors.Given as goal

abbrev pub invariant-loop-number : goal.invariant-loop-number
invariant-loop-number l = record {
  instances : instances_of l.list ++ applicable_from l.task (sight_of l.row) l.number (drop l.number l.task.actions) ≡ applicable_from l.task (sight_of l.row) 0 l.task.actions;
  within : way_out_from l.task (sight_of l.row) l.number (drop l.number l.task.actions) ≡ way_out l.task (sight_of l.row);
  rows : All (IsNext l.task (sight_of l.row)) l.list;
  narrow : list_any (is_wide_action l.task (sight_of l.row)) (drop l.number l.task.actions) ≡ false;
  sound : list_all (is_sound_action l.task) (drop l.number l.task.actions) ≡ true;
}
