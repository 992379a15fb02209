use Rattle.std.proofs.Common.{◌≡◌, ◌+◌, drop}
use Rattle.std.specs.List.{position_or_len}
use Rattle.mf_model.specs.Views.{objects_of}
use Rattle.mf_task.specs.Grounding.{is_same_cell}
use Rattle.mf_normal.proofs.lookup.number_of_term.Given as goal

abbrev pub invariant-loop-number : goal.invariant-loop-number
invariant-loop-number l =
    l.number + position_or_len (is_same_cell l.function (objects_of l.binding l.terms)) (drop l.number l.cells)
    ≡ position_or_len (is_same_cell l.function (objects_of l.binding l.terms)) l.cells
