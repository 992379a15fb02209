use Rattle.mf_types.proofs.Depths.{IsClimbing}
use Rattle.mf_types.proofs.ancestry.Ancestry.climb.Given as goal

abbrev pub invariant-loop-current : goal.invariant-loop-current
invariant-loop-current l = IsClimbing l.self l.fn.from l.depth l.current

abbrev pub decreases-loop-current : goal.decreases-loop-current
decreases-loop-current l = l.current.depth
