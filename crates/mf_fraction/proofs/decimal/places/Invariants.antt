use Rattle.std.proofs.Common.{◌≡◌, take}
use Rattle.mf_fraction.specs.Decimal.{places}
use Rattle.mf_fraction.proofs.decimal.places.Given as goal

abbrev pub invariant-loop-i : goal.invariant-loop-i
invariant-loop-i l = l.count ≡ places (take l.i l.digits)
