use Rattle.std.proofs.Common.{◌≡◌, not, sym, ap, ap₂, ◌∙◌, List, Option}
use Rattle.std.specs.Prelude.{is_some}
use Rattle.std.specs.Cmp.Lexicographic.{pointwise}
use Rattle.mf_fraction.specs.Exact.{Number}
use Rattle.mf_store.specs.SameRows.{same_value}
use Rattle.mf_task.specs.declared.place.Place.{Place}
use Rattle.mf_task.specs.Rows.{sight_of}
use Rattle.mf_state.specs.Changing.{values_in}
use Rattle.mf_state.proofs.NarrowRows.{narrow_is}
use Rattle.mf_state.proofs.SameWidth.{flipped, narrow_by_forms, narrow_by_values, same_values}
use Rattle.mf_state.proofs.narrow.stays_narrow.Goals as goal

pub returns-then-eq : goal.returns-then-eq
returns-then-eq c =
    let task = c.args.task.now in
    let old = sight_of c.args.row.now in
    let new = sight_of c.args.next.now in
    let same : c.args.row.now.values ≡ c.args.next.now.values = same_values c.args.row.now.values c.args.next.now.values (sym (ap₂ (λ (a : List (Option Number)) (b : List (Option Number)). pointwise same_value a b) c.values.ensures c.values-2.ensures) ∙ sym c.eq.ensures ∙ c.if-eq.true) in
    sym (sym (narrow_by_values task old new (ap (λ (values : List (Option Number)). values_in values) same)) ∙ c.requires.narrow)

pub returns-then-are_as_wide : goal.returns-then-are_as_wide
returns-then-are_as_wide c =
    let task = c.args.task.now in
    let old = sight_of c.args.row.now in
    let new = sight_of c.args.next.now in
    sym (sym (narrow_by_forms task old new (sym c.are_as_wide.ensures ∙ c.if-are_as_wide.true)) ∙ c.requires.narrow)

pub returns : goal.returns
returns c =
    flipped _ _ c.is_none.ensures
    ∙ ap (λ (o : Option Place). not (is_some o)) c.wide_place.ensures
    ∙ sym (narrow_is c.args.task.now (sight_of c.args.next.now))
