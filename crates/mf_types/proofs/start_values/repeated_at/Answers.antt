use Rattle.std.proofs.Common.{◌∙◌, sym, ap, [], ◌∷◌, Option}
use Rattle.std.proofs.lemmas.List.{map-append}
use Rattle.std.specs.Borrow.{Bor}
use Rattle.mf_model.specs.declared.form.RawValue.{RawValue}
use Rattle.mf_types.specs.Faults.{after}
use Rattle.mf_types.specs.StartValues as spec
use Rattle.mf_types.specs.Tables.{pointed}
use Rattle.mf_types.proofs.FirstValues.{new_term, old_term, stood, kept_new, kept_old}
use Rattle.mf_types.proofs.start_values.repeated_at.Goals as goal

pub returns-then-is_new-clause-faults : goal.returns-then-is_new-clause-faults
returns-then-is_new-clause-faults c =
    let firsts = pointed c.args.firsts.now in
    let v : RawValue = c.args.value.now in
    let none = new_term firsts v c.args.terms.now.keys c.in_ok-names.names c.in_ok-place.is_new c.requires c.in_ok-names.ensures c.in_ok-place.ensures.added c.if-is_new.true in
    ap (λ (first : Option RawValue). after c.args.best (spec.differs_at first v)) (sym none)

pub returns-then-is_new-clause-firsts : goal.returns-then-is_new-clause-firsts
returns-then-is_new-clause-firsts c =
    let firsts = pointed c.args.firsts.now in
    let v : RawValue = c.args.value.now in
    let none = new_term firsts v c.args.terms.now.keys c.in_ok-names.names c.in_ok-place.is_new c.requires c.in_ok-names.ensures c.in_ok-place.ensures.added c.if-is_new.true in
    kept_new firsts (pointed c.push.new.self) v none (ap pointed c.in_ok-push.ensures.ok ∙ map-append (λ (value : Bor RawValue). value.now) c.args.firsts.now (c.args.value ∷ []))

pub returns-clause-faults : goal.returns-clause-faults
returns-clause-faults c =
    let firsts = pointed c.args.firsts.now in
    let v : RawValue = c.args.value.now in
    let there = old_term firsts v c.args.terms.now.keys c.in_ok-names.names c.in_ok-place.is_new c.in_ok-place.place c.requires c.in_ok-names.ensures c.in_ok-place.ensures.added c.if-is_new.false c.in_ok-place.ensures.index in
    c.differs_at.ensures ∙ ap (λ (first : Option RawValue). after c.args.best (spec.differs_at first v)) (c.first_at.ensures ∙ sym there)

pub returns-clause-firsts : goal.returns-clause-firsts
returns-clause-firsts c =
    let firsts = pointed c.args.firsts.now in
    let v : RawValue = c.args.value.now in
    kept_old firsts v (stood firsts v c.args.terms.now.keys c.in_ok-names.names c.in_ok-place.is_new c.requires c.in_ok-names.ensures c.in_ok-place.ensures.added c.if-is_new.false)
