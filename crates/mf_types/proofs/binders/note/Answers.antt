use Rattle.std.proofs.Common.{Some, subst}
use Rattle.mf_types.specs.Hiding.{Notes, place_of}
use Rattle.mf_types.proofs.Hiding.{noted}
use Rattle.mf_types.proofs.binders.note.Goals as goal

pub returns-clause-ok : goal.returns-clause-ok
returns-clause-ok c =
    subst (λ name. Notes (place_of c.args.places.now) name (Some c.args.place) (place_of c.insert.new.self)) c.in_ok-key.ensures.items (noted c.args.places.now c.insert.new.self c.in_ok-key.key.items (Some c.args.place) c.in_ok-hidden.ensures.updates)
