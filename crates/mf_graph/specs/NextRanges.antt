-- The ranges of all terms in the next layer, one change after the other.
use Rattle.std.specs.Prelude.{ℕ, ◌+◌, List, [], ◌∷◌, length, replicate, get_or, set, Option, Some, None, if◌then◌else◌}
use Rattle.std.specs.List.{fold}
use Rattle.mf_fraction.specs.Exact.{Number}
use Rattle.mf_model.specs.declared.task.Op.{Op}
use Rattle.mf_model.specs.declared.task.Op.TheVariants.{Assign, Increase, Decrease, ScaleUp, ScaleDown}
use Rattle.mf_task.specs.Layers.{Bound, Finite, Range, Counting, fall_of, higher, is_step, lower, minus_bound, plus_bound, rise_of, scaled_high, scaled_low, zero_number}
use Rattle.mf_graph.specs.declared.gains.Counted.{Counted}
use Rattle.mf_graph.specs.declared.moves.Move.{Move}

abbrev pub still : Move
still = record { rise = Finite zero_number; fall = Finite zero_number }

abbrev pub moved : Move → Counting → Move
moved before counting = record { rise = plus_bound before.rise (rise_of counting); fall = plus_bound before.fall (fall_of counting) }

abbrev pub with_move : List Move → Counted → List Move
with_move moves change =
    if is_step change.counting then set moves change.term (moved (get_or moves change.term still) change.counting) else moves

abbrev pub moved_range : Option Range → Move → Option Range
moved_range (Some range) by = Some (record { low = minus_bound range.low by.fall; high = plus_bound range.high by.rise })
moved_range None by = None

abbrev pub moved_from : ℕ → List (Option Range) → List Move → List (Option Range)
moved_from n [] moves = []
moved_from n (range ∷ ranges) moves = moved_range range (get_or moves n still) ∷ moved_from (n + 1) ranges moves

-- what an assign or a scaling gives a term with this range
abbrev pub scaled_range : Option Number → Option Range → Option Range
scaled_range (Some factor) (Some range) = Some (record { low = scaled_low factor range; high = scaled_high factor range })
scaled_range (Some factor) None = None
scaled_range None range = None

abbrev pub end_by : Op → Option Range → Counting → Option Range
end_by Assign range counting = Some counting.range
end_by ScaleUp range counting = scaled_range counting.factor range
end_by ScaleDown range counting = scaled_range counting.factor range
end_by Increase range counting = None
end_by Decrease range counting = None

abbrev pub end_of : Option Range → Counting → Option Range
end_of range counting = end_by counting.op range counting

-- the least range that has both
abbrev pub widened : Option Range → Option Range → Option Range
widened (Some before) (Some end) = Some (record { low = lower before.low end.low; high = higher before.high end.high })
widened (Some before) None = Some before
widened None end = end

abbrev pub with_end : List (Option Range) → List (Option Range) → Counted → List (Option Range)
with_end ranges next change = set next change.term (widened (get_or next change.term None) (end_of (get_or ranges change.term None) change.counting))

abbrev pub next_ranges : List (Option Range) → List Counted → List (Option Range)
next_ranges ranges counted =
    fold (with_end ranges) (moved_from 0 ranges (fold with_move (replicate (length ranges) still) counted)) counted
