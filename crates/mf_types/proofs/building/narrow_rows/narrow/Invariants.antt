use Rattle.std.proofs.Common.{◌≡◌, take}
use Rattle.mf_types.proofs.building.narrow_rows.narrow.Given as goal

abbrev pub invariant-loop-number : goal.invariant-loop-number
invariant-loop-number l = l.out ≡ take l.number-index l.numbers
