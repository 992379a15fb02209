use Rattle.std.proofs.Common.{◌≡◌, drop, replicate}
use Rattle.std.specs.List.{fold}
use Rattle.mf_graph.specs.NextRanges.{still, with_move}
use Rattle.mf_graph.proofs.moves.moves_of.Given as goal

abbrev pub invariant-loop-change : goal.invariant-loop-change
invariant-loop-change l = fold with_move l.moves (drop l.change-index l.counted) ≡ fold with_move (replicate l.terms still) l.counted
