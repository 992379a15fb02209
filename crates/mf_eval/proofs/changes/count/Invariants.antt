use Rattle.std.proofs.Common.{◌≡◌, ◌+◌, ◌≤◌, drop, filter, length}
use Rattle.mf_model.specs.Application.{changes_cell}
use Rattle.mf_eval.specs.Fired.{changes_in}
use Rattle.mf_eval.proofs.changes.count.Given as goal

abbrev pub invariant-loop-deed : goal.invariant-loop-deed
invariant-loop-deed l =
    (l.count + length (filter (changes_cell l.cell.function l.cell.objects) (changes_in (drop l.deed-index l.deeds))) ≡ length (filter (changes_cell l.cell.function l.cell.objects) (changes_in l.deeds)))
    × (l.count ≤ l.deed-index)
