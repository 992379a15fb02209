use Rattle.std.proofs.Common.{◌≡◌, ◌∙◌, ◌++◌, ◌∷◌, [], ap, length, rules}
use Rattle.mf_types.specs.declared.binders.Binder.{Binder}
use Rattle.mf_types.specs.Hiding.{place_of}
use Rattle.mf_types.proofs.Hiding.{kept_inside}
use Rattle.mf_types.proofs.binders.Binders.push.Goals as goal

pub invariant_of-self-2 : goal.invariant_of-self-2
invariant_of-self-2 c =
    let binder : Binder = record { name = c.in_ok-own.own; hidden = c.in_ok-hidden.hidden } in
    let count : c.len.result ≡ length c.self.inside.stack.items = search rules in
    kept_inside (place_of c.self.inside.places) (place_of c.note.new.places) c.self.inside.stack.items c.push_reserved.new.self.items binder c.args.name.now c.len.result c.self.invariant (c.push_reserved.ensures.items ∙ ap (λ items. items ++ binder ∷ []) c.reserve.ensures.items) c.in_ok-own.ensures c.in_ok-hidden.ensures.hidden count c.in_ok-hidden.ensures.ok
