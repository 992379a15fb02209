use Rattle.std.proofs.Common.{◌≡◌, ◌∙◌, ◌<◌, ap, sym, subst, length, Some, [], slice_index_or}
use Rattle.std.proofs.lemmas.List.{get_or_default}
use Rattle.mf_types.specs.Arguments.{entry, types_at}
use Rattle.mf_types.specs.Scopes.{Scope, find_in}
use Rattle.mf_types.proofs.Scoped.{types_at_place}
use Rattle.mf_types.proofs.scope.Scope.types_of.Goals as goal

pub returns-in-Some : goal.returns-in-Some
returns-in-Some c =
    let names = c.self.inside.binders in
    let types = c.self.inside.types.items in
    let name = c.args.name.now in
    let found : Scope → _ = λ scope. types_at (find_in scope name) in
    let within : c.in-Some.place < length types = subst (λ n. c.in-Some.place < n) (sym c.self.invariant) c.in-Some.ensures.within in
    let own : c.index.result.now ≡ slice_index_or types c.in-Some.place [] = c.index.ensures ∙ get_or_default types c.in-Some.place c.index.result.now [] within in
    ap Some own
    ∙ (ap (entry types) (sym c.in-Some.is ∙ c.find.ensures.value)
    ∙ (types_at_place names types name c.self.invariant
    ∙ ap found c.self.view_is))

pub returns-in-None : goal.returns-in-None
returns-in-None c =
    let names = c.self.inside.binders in
    let types = c.self.inside.types.items in
    let name = c.args.name.now in
    let found : Scope → _ = λ scope. types_at (find_in scope name) in
    ap (entry types) (sym c.in-None.is ∙ c.find.ensures.value)
    ∙ (types_at_place names types name c.self.invariant
    ∙ ap found c.self.view_is)
