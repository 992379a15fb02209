use Rattle.std.proofs.Common.{◌≡◌, drop}
use Rattle.std.specs.List.{list_any}
use Rattle.mf_task.specs.Rows.{sight_of}
use Rattle.mf_task.specs.Width as spec
use Rattle.mf_state.proofs.width.+is_wide.Given as goal

abbrev pub invariant-is_some_wide-loop-part : goal.invariant-is_some_wide-loop-part
invariant-is_some_wide-loop-part l = list_any (spec.is_wide_cond l.task (sight_of l.row)) (drop l.part-index l.parts) ≡ list_any (spec.is_wide_cond l.task (sight_of l.row)) l.parts
