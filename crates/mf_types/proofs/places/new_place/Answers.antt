use Rattle.std.proofs.Common.{ℕ, subst}
use Rattle.mf_types.specs.Places.{IsPlace}
use Rattle.mf_types.proofs.Depths.{placed}
use Rattle.mf_types.proofs.places.new_place.Goals as goal

pub place_below-requires-clause-above : goal.place_below-requires-clause-above
place_below-requires-clause-above c =
    subst (λ (t : ℕ). IsPlace c.args.parents.now t c.in-Some.above) c.number_at.ensures
    (placed c.args.parents.now c.args.places.now c.number_at.result c.place_of.result c.in-Some.above c.requires c.place_of.ensures c.in-Some.is)
