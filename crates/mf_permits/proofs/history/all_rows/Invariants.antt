use Rattle.std.proofs.Common.{◌≡◌, take}
use Rattle.mf_permits.proofs.history.all_rows.Given as goal

abbrev pub invariant-loop-number : goal.invariant-loop-number
invariant-loop-number l = l.rows ≡ take l.number l.store.rows
