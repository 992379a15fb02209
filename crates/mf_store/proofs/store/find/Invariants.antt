use Rattle.std.proofs.Common.{length}
use Rattle.mf_store.specs.Chains.{left}
use Rattle.mf_store.specs.Numbers.{IsSought}
use Rattle.mf_store.proofs.store.find.Given as goal

abbrev pub invariant-loop-next : goal.invariant-loop-next
invariant-loop-next l = IsSought l.hash l.chains.hashes l.rows.rows l.row l.next

abbrev pub decreases-loop-next : goal.decreases-loop-next
decreases-loop-next l = left (length l.chains.hashes) l.next
