use Rattle.std.proofs.Common.{◌≡◌, drop}
use Rattle.mf_task.specs.Rows.{sight_of}
use Rattle.mf_task.specs.Width as spec
use Rattle.mf_state.proofs.width.wide_place.Given as goal

abbrev pub invariant-loop-number : goal.invariant-loop-number
invariant-loop-number l = spec.place_from l.task (sight_of l.row) l.number (drop l.number l.task.actions) ≡ spec.wide_place l.task (sight_of l.row)
