use Rattle.std.proofs.Common.{◌≡◌, ◌+◌, ◌*◌, drop, map, Some}
use Rattle.mf_task.specs.Layers.{all_levels, any_level, earlier, later}
use Rattle.mf_graph.specs.FirstLevels.{level_by}
use Rattle.mf_graph.proofs.level.+level.Given as goal

abbrev pub invariant-latest-loop-part : goal.invariant-latest-loop-part
invariant-latest-loop-part l =
    later (Some l.last) (all_levels (map (λ part. part l.asked) (map (level_by l.levels) (drop l.part-index l.parts)))) ≡ all_levels (map (λ part. part l.asked) (map (level_by l.levels) l.parts))

abbrev pub invariant-earliest-loop-part : goal.invariant-earliest-loop-part
invariant-earliest-loop-part l =
    earlier l.first (any_level (map (λ part. part l.asked) (map (level_by l.levels) (drop l.part-index l.parts)))) ≡ any_level (map (λ part. part l.asked) (map (level_by l.levels) l.parts))

abbrev pub decreases-level : goal.decreases-level
decreases-level l = 1000 * goal.size-level l

abbrev pub decreases-level_of_and : goal.decreases-level_of_and
decreases-level_of_and l = 1000 * goal.size-level_of_and l + 600

abbrev pub decreases-level_of_or : goal.decreases-level_of_or
decreases-level_of_or l = 1000 * goal.size-level_of_or l + 600

abbrev pub decreases-latest : goal.decreases-latest
decreases-latest l = 1000 * goal.size-latest l + 500

abbrev pub decreases-earliest : goal.decreases-earliest
decreases-earliest l = 1000 * goal.size-earliest l + 500
