use Rattle.std.proofs.Common.{◌≡◌, ◌∙◌, ap, sym, subst, drop, length, get_or, ℕ, ◌<◌, [], ◌∷◌, ◌++◌, List}
use Rattle.std.proofs.lemmas.List.{get_or-map}
use Rattle.mf_model.specs.declared.form.Typed.{Typed}
use Rattle.mf_types.specs.Arguments.{types_at}
use Rattle.mf_types.specs.Hiding.{types_else}
use Rattle.mf_types.specs.Names.{item_types}
use Rattle.mf_types.specs.Scopes.{find_in, variable}
use Rattle.mf_types.proofs.FirstTypes.{variable_more}
use Rattle.mf_types.proofs.scope.enter.Goals as goal

pub loop-n-preserved : goal.loop-n-preserved
loop-n-preserved c =
    let types = c.args.tables.now.types in
    let items = c.args.items.now in
    let scope = c.loop-n.scope in
    let n = c.loop-n.n in
    let first = c.len-first.result in
    let item = c.item-item.result in
    let own = c.index-as_slice-n.result in
    let within : n < length items = subst (λ (all : List Typed). n < length all) c.as_slice-item-items.ensures c.loop-n-test.true in
    let is : item ≡ get_or items n item = c.item-item.is ∙ ap (λ (all : List Typed). get_or all n item) c.as_slice-item-items.ensures in
    let own_is : own ≡ item_types types item =
    c.index-as_slice-n.is
    ∙ (ap (λ (rows : List (List ℕ)). get_or rows n own) (c.as_slice.ensures ∙ c.in_ok-rows.ensures)
    ∙ (get_or-map (item_types types) items n item own within ∙ ap (item_types types) (sym is))) in
    let step = c.in_ok-push_of_list.ensures ∙ ap (λ name. scope ++ variable name (types_else (types_at (find_in (drop first scope) name)) own) ∷ []) c.as_slice-name.ensures in
    variable_more types items n first item own c.args.scope.now scope c.push_of_list.new.self within is c.len-first.ensures own_is c.loop-n.invariant step
