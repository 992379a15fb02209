use Rattle.std.proofs.Common.{◌≡◌, ◌++◌, true, drop, map}
use Rattle.std.specs.List.{flat_map}
use Rattle.mf_model.specs.Plain.{all_true}
use Rattle.mf_plain.specs.Conjunctions.{is_conjunction, needs_of}
use Rattle.mf_plain.proofs.holding.+list_needs.Given as goal

abbrev pub decreases-list_needs : goal.decreases-list_needs
decreases-list_needs l = goal.size-list_needs l

abbrev pub invariant-loop-part : goal.invariant-loop-part
invariant-loop-part l = record {
  plain : all_true (map is_conjunction (drop l.part-index l.part-items)) ≡ true;
  rest : l.needs ++ flat_map (λ part. part l.binding) (map needs_of (drop l.part-index l.part-items)) ≡ l.fn.needs ++ needs_of l.condition l.binding;
}
