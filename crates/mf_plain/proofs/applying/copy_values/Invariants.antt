use Rattle.std.proofs.Common.{◌≡◌, take}
use Rattle.mf_plain.proofs.applying.copy_values.Given as goal

abbrev pub invariant-loop-valued : goal.invariant-loop-valued
invariant-loop-valued l = l.list ≡ take l.valued-index l.values
