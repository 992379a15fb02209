use Rattle.std.proofs.Common.{◌≡◌, length}
use Rattle.mf_types.specs.StartValues.{without_end_zeros}
use Rattle.mf_types.proofs.decimals.without_end_zeros.Given as goal

abbrev pub invariant-loop-left : goal.invariant-loop-left
invariant-loop-left l = without_end_zeros l.left ≡ without_end_zeros l.fn.digits

abbrev pub decreases-loop-left : goal.decreases-loop-left
decreases-loop-left l = length l.left
