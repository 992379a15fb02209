use Rattle.std.proofs.Common.{◌≡◌, drop}
use Rattle.std.specs.List.{list_all}
use Rattle.mf_task.specs.Rows.{sight_of}
use Rattle.mf_state.specs.Narrowness as spec
use Rattle.mf_state.proofs.narrow.are_as_wide.Given as goal

abbrev pub invariant-loop-form : goal.invariant-loop-form
invariant-loop-form l =
    list_all (spec.is_as_wide (sight_of l.row).value (sight_of l.next).value) (drop l.form-index l.task.forms) ≡ list_all (spec.is_as_wide (sight_of l.row).value (sight_of l.next).value) l.task.forms
