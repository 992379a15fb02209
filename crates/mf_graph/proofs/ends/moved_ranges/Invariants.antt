use Rattle.std.proofs.Common.{◌≡◌, ◌++◌, drop}
use Rattle.mf_graph.specs.NextRanges.{moved_from}
use Rattle.mf_graph.proofs.ends.moved_ranges.Given as goal

abbrev pub invariant-loop-term : goal.invariant-loop-term
invariant-loop-term l = l.next ++ moved_from l.term (drop l.term l.ranges) l.moves ≡ moved_from 0 l.ranges l.moves
