use Rattle.std.proofs.Common.{◌≡◌, take}
use Rattle.mf_eval.proofs.values.copy_values.Given as goal

abbrev pub invariant-loop-valued : goal.invariant-loop-valued
invariant-loop-valued l = l.copies.items ≡ take l.valued-index l.values
