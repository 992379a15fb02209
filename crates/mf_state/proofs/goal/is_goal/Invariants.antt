use Rattle.std.proofs.Common.{◌≡◌, drop, false}
use Rattle.std.specs.List.{list_all, list_any}
use Rattle.mf_task.specs.GroundMeaning.{ground_holds, is_ground_goal}
use Rattle.mf_task.specs.Rows.{sight_of}
use Rattle.mf_task.specs.Width.{is_wide_cond}
use Rattle.mf_state.proofs.goal.is_goal.Given as goal

abbrev pub invariant-loop-condition : goal.invariant-loop-condition
invariant-loop-condition l = record {
  rest : list_all (ground_holds l.task (sight_of l.row)) (drop l.condition-index l.task.goal) ≡ is_ground_goal l.task (sight_of l.row);
  narrow : list_any (is_wide_cond l.task (sight_of l.row)) (drop l.condition-index l.task.goal) ≡ false;
}
