use Rattle.std.proofs.Common.{◌≡◌, drop, false}
use Rattle.std.specs.Prelude.{filter}
use Rattle.std.specs.List.{list_all, list_any}
use Rattle.mf_task.specs.GroundMeaning as spec
use Rattle.mf_task.specs.Rows.{sight_of}
use Rattle.mf_task.specs.Width.{is_wide_cond}
use Rattle.mf_state.proofs.changes.are_sums.Given as goal

abbrev pub invariant-loop-effect : goal.invariant-loop-effect
invariant-loop-effect l = record {
  rest : list_all spec.is_ground_sum (filter (spec.changes_term l.term) (spec.ground_firing l.task (sight_of l.row) (drop l.effect-index l.effects))) ≡ list_all spec.is_ground_sum (filter (spec.changes_term l.term) (spec.ground_firing l.task (sight_of l.row) l.effects));
  narrow : list_any (λ effect. is_wide_cond l.task (sight_of l.row) effect.condition) (drop l.effect-index l.effects) ≡ false;
}
