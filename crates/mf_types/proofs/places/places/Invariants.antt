use Rattle.mf_types.specs.Places.{ArePlaces}
use Rattle.mf_types.proofs.places.places.Given as goal

abbrev pub invariant-loop-number : goal.invariant-loop-number
invariant-loop-number l = ArePlaces l.parents l.places.items
