use Rattle.std.proofs.Common.{◌≡◌, drop}
use Rattle.std.specs.List.{fold}
use Rattle.mf_graph.specs.NextRanges.{next_ranges, with_end}
use Rattle.mf_graph.proofs.ends.next_ranges.Given as goal

abbrev pub invariant-loop-change : goal.invariant-loop-change
invariant-loop-change l = fold (with_end l.ranges) l.next (drop l.change-index l.counted) ≡ next_ranges l.ranges l.counted
