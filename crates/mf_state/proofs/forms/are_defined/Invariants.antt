use Rattle.std.proofs.Common.{◌≡◌, drop}
use Rattle.mf_task.specs.Rows.{sight_of}
use Rattle.mf_task.specs.Width as width
use Rattle.mf_state.proofs.forms.are_defined.Given as goal

abbrev pub invariant-loop-part : goal.invariant-loop-part
invariant-loop-part l = width.all_defined (sight_of l.row).value (drop l.part-index l.parts) ≡ width.all_defined (sight_of l.row).value l.parts
