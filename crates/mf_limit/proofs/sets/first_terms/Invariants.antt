use Rattle.std.proofs.Common.{◌≡◌, ◌≤◌, map, take, length, vec_capacity}
use Rattle.mf_limit.specs.Sets.{first_term}
use Rattle.mf_limit.proofs.sets.first_terms.Given as goal

abbrev pub invariant-loop-value : goal.invariant-loop-value
invariant-loop-value l = record {
  items : l.terms.items ≡ map first_term (take l.value-index l.values);
  room : length l.values ≤ vec_capacity l.terms;
}
