use Rattle.std.proofs.Common.{◌∙◌, ap, sym, length}
use Rattle.mf_types.specs.Scopes.{Scope, variable}
use Rattle.mf_types.proofs.Paired.{length_paired}
use Rattle.mf_types.proofs.scope.Scope.len.Goals as goal

pub returns : goal.returns
returns c =
    let count : Scope → _ = λ scope. length scope in
    c.len.ensures ∙ (sym (length_paired variable c.self.inside.binders c.self.inside.types.items c.self.invariant) ∙ ap count c.self.view_is)
