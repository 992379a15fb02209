use Rattle.std.proofs.Common.{◌≡◌, true, drop, map}
use Rattle.std.specs.List.{flat_map}
use Rattle.mf_model.specs.Plain.{all_true}
use Rattle.mf_plain.specs.Conjunctions.{is_conjunction, needs_of, all_needs}
use Rattle.mf_plain.proofs.holding.+holds.Given as goal

abbrev pub decreases-holds : goal.decreases-holds
decreases-holds l = goal.size-holds l

abbrev pub invariant-loop-part : goal.invariant-loop-part
invariant-loop-part l = record {
  plain : all_true (map is_conjunction (drop l.part-index l.part-items)) ≡ true;
  rest : all_needs l.atoms (flat_map (λ part. part l.binding) (map needs_of (drop l.part-index l.part-items))) ≡ all_needs l.atoms (needs_of l.condition l.binding);
}
