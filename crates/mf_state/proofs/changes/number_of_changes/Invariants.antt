use Rattle.std.proofs.Common.{◌≡◌, ◌+◌, ◌≤◌, drop, false, length}
use Rattle.std.specs.Prelude.{filter}
use Rattle.std.specs.List.{list_any}
use Rattle.mf_task.specs.GroundMeaning as spec
use Rattle.mf_task.specs.Rows.{sight_of}
use Rattle.mf_task.specs.Width.{is_wide_cond}
use Rattle.mf_state.proofs.changes.number_of_changes.Given as goal

abbrev pub invariant-loop-effect : goal.invariant-loop-effect
invariant-loop-effect l = record {
  rest : l.count + length (filter (spec.changes_term l.term) (spec.ground_firing l.task (sight_of l.row) (drop l.effect-index l.effects))) ≡ length (filter (spec.changes_term l.term) (spec.ground_firing l.task (sight_of l.row) l.effects));
  few : l.count ≤ l.effect-index;
  narrow : list_any (λ effect. is_wide_cond l.task (sight_of l.row) effect.condition) (drop l.effect-index l.effects) ≡ false;
}
