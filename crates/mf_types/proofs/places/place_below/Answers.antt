use Rattle.std.proofs.Common.{ℕ, subst}
use Rattle.mf_types.specs.Places.{Leads}
use Rattle.mf_types.proofs.Depths.{place_below}
use Rattle.mf_types.proofs.places.place_below.Goals as goal

pub returns : goal.returns
returns c =
    let parents = c.args.parents.now in
    place_below parents c.args.number c.new_jump-jump.result c.args.above c.requires.number c.if-number-above.false c.requires.above
    (subst (λ (t : ℕ). Leads parents c.args.above.depth t c.new_jump-jump.result) c.number_at.ensures c.new_jump-jump.ensures)
    c.if-depth-parents.false
