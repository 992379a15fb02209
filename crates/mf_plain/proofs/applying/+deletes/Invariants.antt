use Rattle.std.proofs.Common.{◌≡◌, true, drop}
use Rattle.std.specs.List.{flat_map}
use Rattle.mf_model.specs.Plain.{all_true}
use Rattle.std.proofs.Common.{map}
use Rattle.mf_plain.specs.Changes.{only_changes_atoms, deletes_of, is_deleted}
use Rattle.mf_plain.proofs.applying.+deletes.Given as goal

abbrev pub decreases-deletes : goal.decreases-deletes
decreases-deletes l = goal.size-deletes l

abbrev pub invariant-loop-part : goal.invariant-loop-part
invariant-loop-part l = record {
  plain : all_true (map only_changes_atoms (drop l.part-index l.part-items)) ≡ true;
  rest : is_deleted (flat_map (λ part. part l.binding) (map deletes_of (drop l.part-index l.part-items))) l.atom ≡ is_deleted (deletes_of l.effect l.binding) l.atom;
}
