use Rattle.mf_types.proofs.Depths.{leads_further, placed}
use Rattle.mf_types.proofs.places.new_jump.Goals as goal

pub returns-then-first-second : goal.returns-then-first-second
returns-then-first-second c =
    leads_further c.args.parents.now c.args.parent c.args.above c.in-Some.middle c.requires.above
    (placed c.args.parents.now c.args.places.now c.args.above.jump c.place_of.result c.in-Some.middle c.requires.places c.place_of.ensures c.in-Some.is)
    c.if-above-middle.true
