use Rattle.std.proofs.Common.{◌≡◌, take}
use Rattle.mf_types.proofs.building.declarations.narrow_all.Given as goal

abbrev pub invariant-loop-row : goal.invariant-loop-row
invariant-loop-row l = l.out ≡ take l.row-index l.lists
