use Rattle.std.proofs.Common.{◌≡◌, drop, filter}
use Rattle.std.specs.List.{list_all}
use Rattle.mf_model.specs.Application.{changes_cell, is_sum_change}
use Rattle.mf_eval.specs.Fired.{changes_in}
use Rattle.mf_eval.proofs.changes.are_sums.Given as goal

abbrev pub invariant-loop-deed : goal.invariant-loop-deed
invariant-loop-deed l =
    list_all is_sum_change (filter (changes_cell l.cell.function l.cell.objects) (changes_in (drop l.deed-index l.deeds))) ≡ list_all is_sum_change (filter (changes_cell l.cell.function l.cell.objects) (changes_in l.deeds))
