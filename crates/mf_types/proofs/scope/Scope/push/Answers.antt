use Rattle.std.proofs.Common.{◌∙◌, ◌++◌, ◌∷◌, [], ap}
use Rattle.mf_types.specs.Scopes.{Scope, variable}
use Rattle.mf_types.specs.Tasks.{paired}
use Rattle.mf_types.proofs.Paired.{paired_more}
use Rattle.mf_types.proofs.scope.Scope.push.Goals as goal

pub returns-clause-ok : goal.returns-clause-ok
returns-clause-ok c =
    let names = c.self.inside.binders in
    let types = c.self.inside.types.items in
    let name = c.args.name.now in
    let own = c.args.types in
    let inside : Scope → _ = λ scope. scope ++ variable name own ∷ [] in
    ap (λ all. paired variable all c.push_reserved.new.self.items) c.in_ok-push.ensures.ok
    ∙ (ap (λ all. paired variable (names ++ name ∷ []) all) (c.push_reserved.ensures.items ∙ ap (λ all. all ++ own ∷ []) c.reserve.ensures.items)
    ∙ (paired_more variable names types name own c.self.invariant
    ∙ ap inside c.self.view_is))
