use Rattle.std.proofs.Common.{length}
use Rattle.mf_store.specs.Chains.{IsWalk, left}
use Rattle.mf_store.proofs.chains.Chains.last.Given as goal

abbrev pub invariant-loop-next : goal.invariant-loop-next
invariant-loop-next l = IsWalk l.hash l.self.hashes l.last l.next

abbrev pub decreases-loop-next : goal.decreases-loop-next
decreases-loop-next l = left (length l.self.hashes) l.next
