use Rattle.std.proofs.Common.{◌≡◌, drop, map, false}
use Rattle.std.specs.List.{list_any}
use Rattle.mf_model.specs.Meaning.{all_of, and_of, any_of, or_of}
use Rattle.mf_task.specs.GroundMeaning.{ground_truth}
use Rattle.mf_task.specs.Rows.{sight_of}
use Rattle.mf_task.specs.Width.{is_wide_cond}
use Rattle.mf_state.proofs.conditions.+truth_at_row.Given as goal

abbrev pub invariant-all-loop-part : goal.invariant-all-loop-part
invariant-all-loop-part l = record {
  truth : and_of l.front (all_of (map (ground_truth l.task (sight_of l.row)) (drop l.part-index l.parts))) ≡ all_of (map (ground_truth l.task (sight_of l.row)) l.parts);
  narrow : list_any (is_wide_cond l.task (sight_of l.row)) (drop l.part-index l.parts) ≡ false;
}

abbrev pub invariant-any-loop-part : goal.invariant-any-loop-part
invariant-any-loop-part l = record {
  truth : or_of l.front (any_of (map (ground_truth l.task (sight_of l.row)) (drop l.part-index l.parts))) ≡ any_of (map (ground_truth l.task (sight_of l.row)) l.parts);
  narrow : list_any (is_wide_cond l.task (sight_of l.row)) (drop l.part-index l.parts) ≡ false;
}
