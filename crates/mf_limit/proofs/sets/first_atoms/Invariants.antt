use Rattle.std.proofs.Common.{◌≡◌, ◌≤◌, map, vec_capacity}
use Rattle.std.specs.List.{range_with_len}
use Rattle.mf_task.specs.Rows.{sight_of}
use Rattle.mf_limit.specs.Sets.{first_atom}
use Rattle.mf_limit.proofs.sets.first_atoms.Given as goal

abbrev pub invariant-loop-atom : goal.invariant-loop-atom
invariant-loop-atom l = record {
  items : l.atoms.items ≡ map (first_atom (sight_of l.row)) (range_with_len 0 l.atom);
  room : l.count ≤ vec_capacity l.atoms;
}
