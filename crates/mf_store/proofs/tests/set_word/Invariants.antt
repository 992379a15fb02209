use Rattle.std.proofs.Common.{◌≡◌, length}
use Rattle.mf_store.proofs.tests.set_word.Given as goal

abbrev pub invariant-loop-place : goal.invariant-loop-place
invariant-loop-place l = (length l.row.bits ≡ length l.fn.row.bits) × (l.row.values ≡ l.fn.row.values)
