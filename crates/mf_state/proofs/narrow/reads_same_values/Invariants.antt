use Rattle.std.proofs.Common.{◌≡◌, drop}
use Rattle.std.specs.List.{list_all}
use Rattle.mf_store.specs.SameRows.{same_value}
use Rattle.mf_task.specs.Rows.{sight_of}
use Rattle.mf_state.proofs.narrow.reads_same_values.Given as goal

abbrev pub invariant-loop-part : goal.invariant-loop-part
invariant-loop-part l =
    list_all (λ p. same_value ((sight_of l.row).value p.term) ((sight_of l.next).value p.term)) (drop l.part-index l.parts) ≡ list_all (λ p. same_value ((sight_of l.row).value p.term) ((sight_of l.next).value p.term)) l.parts
