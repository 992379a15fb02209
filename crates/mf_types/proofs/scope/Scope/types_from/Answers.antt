use Rattle.std.proofs.Common.{◌≡◌, ◌∙◌, ◌<◌, ◌≤◌, ap, arith, sym, subst, drop, length, Some, [], slice_index_or}
use Rattle.std.specs.Option.{option_copied}
use Rattle.std.proofs.lemmas.List.{get_or_default}
use Rattle.mf_types.specs.Arguments.{types_at}
use Rattle.mf_types.specs.Scopes.{Scope, find_in}
use Rattle.mf_types.proofs.FirstTypes.{types_before, types_met, types_nowhere}
use Rattle.mf_types.proofs.scope.Scope.types_from.Goals as goal

pub returns-in_err-place : goal.returns-in_err-place
returns-in_err-place c =
    let found : Scope → _ = λ scope. types_at (find_in (drop c.args.first scope) c.args.name.now) in
    ap (λ result. option_copied result) c.from_residual.ensures
    ∙ types_nowhere c.args.first c.self.inside.binders c.self.inside.types.items c.args.name.now c.self.invariant (sym c.in_err-place.ensures.value)
    ∙ ap found c.self.view_is

pub returns-then-place-first : goal.returns-then-place-first
returns-then-place-first c =
    let found : Scope → _ = λ scope. types_at (find_in (drop c.args.first scope) c.args.name.now) in
    types_before c.args.first c.in_ok-place.place c.self.inside.binders c.self.inside.types.items c.args.name.now c.self.invariant (sym c.in_ok-place.ensures.value) c.if-place-first.true
    ∙ ap found c.self.view_is

pub returns : goal.returns
returns c =
    let names = c.self.inside.binders in
    let types = c.self.inside.types.items in
    let place = c.in_ok-place.place in
    let name = c.args.name.now in
    let found : Scope → _ = λ scope. types_at (find_in (drop c.args.first scope) name) in
    let within : place < length types = subst (λ n. place < n) (sym c.self.invariant) c.in_ok-place.ensures.within in
    let own : c.index.result.now ≡ slice_index_or types place [] = c.index.ensures ∙ get_or_default types place c.index.result.now [] within in
    ap Some own
    ∙ (types_met c.args.first place names types name c.self.invariant (sym c.in_ok-place.ensures.value) (omega (arith, c.if-place-first.false))
    ∙ ap found c.self.view_is)
