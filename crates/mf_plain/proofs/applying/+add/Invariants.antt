use Rattle.std.proofs.Common.{◌≡◌, true, drop, map}
use Rattle.std.specs.List.{fold, flat_map}
use Rattle.mf_model.specs.Plain.{all_true}
use Rattle.mf_model.specs.States.{with_atom}
use Rattle.mf_plain.specs.Changes.{only_changes_atoms, adds_of}
use Rattle.mf_plain.proofs.applying.+add.Given as goal

abbrev pub decreases-add : goal.decreases-add
decreases-add l = goal.size-add l

abbrev pub invariant-loop-part : goal.invariant-loop-part
invariant-loop-part l = record {
  plain : all_true (map only_changes_atoms (drop l.part-index l.part-items)) ≡ true;
  rest : fold with_atom l.atoms (flat_map (λ part. part l.binding) (map adds_of (drop l.part-index l.part-items))) ≡ fold with_atom l.fn.atoms (adds_of l.effect l.binding);
}
