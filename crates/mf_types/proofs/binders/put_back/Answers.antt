use Rattle.std.proofs.Common.{Some, None, subst, sym}
use Rattle.mf_types.specs.Hiding.{Notes, place_of}
use Rattle.mf_types.proofs.Hiding.{noted}
use Rattle.mf_types.proofs.binders.put_back.Goals as goal

pub returns-in-None : goal.returns-in-None
returns-in-None c =
    subst (λ hidden. Notes (place_of c.args.places.now) c.args.name.now hidden (place_of c.swap_remove.new.self)) (sym c.in-None.is) (noted c.args.places.now c.swap_remove.new.self c.args.name.now None c.swap_remove.ensures.updates)

pub returns-in-Some-get_mut : goal.returns-in-Some-get_mut
returns-in-Some-get_mut c =
    subst (λ hidden. Notes (place_of c.args.places.now) c.args.name.now hidden (place_of (c.get_mut.follows.lender c.in-Some.place))) (sym c.in-Some.is) (noted c.args.places.now (c.get_mut.follows.lender c.in-Some.place) c.args.name.now (Some c.in-Some.place) ((c.get_mut.follows.holds c.in-Some.place).3 c.requires))
