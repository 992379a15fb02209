use Rattle.std.proofs.Common.{◌≡◌, map, take}
use Rattle.mf_store.specs.Packed.{value_of}
use Rattle.mf_store.proofs.strip.are_values.Given as goal

abbrev pub invariant-loop-i : goal.invariant-loop-i
invariant-loop-i l = map (value_of l.fractions) (take l.i l.words) ≡ take l.i l.values
