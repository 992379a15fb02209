use Rattle.std.proofs.Common.{◌∙◌, ap, take}
use Rattle.mf_types.specs.Scopes.{Scope, variable}
use Rattle.mf_types.specs.Tasks.{paired}
use Rattle.mf_types.proofs.Paired.{take_paired}
use Rattle.mf_types.proofs.scope.Scope.truncate.Goals as goal

pub returns : goal.returns
returns c =
    let names = c.self.inside.binders in
    let types = c.self.inside.types.items in
    let outer : Scope → _ = λ scope. take c.args.len scope in
    ap (λ all. paired variable all c.truncate-2.new.self.items) c.truncate.ensures
    ∙ (ap (λ all. paired variable (take c.args.len names) all) c.truncate-2.ensures.items
    ∙ (take_paired variable c.args.len names types
    ∙ ap outer c.self.view_is))
