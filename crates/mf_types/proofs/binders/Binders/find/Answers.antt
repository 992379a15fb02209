use Rattle.std.proofs.Common.{◌<◌, ◌∙◌, ap, length, subst, sym, IfSome}
use Rattle.mf_types.specs.Typing.{Binders, place_in}
use Rattle.mf_types.proofs.Hiding.{place_within}
use Rattle.mf_types.proofs.binders.Binders.find.Goals as goal

pub returns-clause-within : goal.returns-clause-within
returns-clause-within c =
    let by_names : Binders → _ = λ names. place_in names c.args.name.now in
    subst (λ o. IfSome o (λ n. n < length c.args.self.now)) (sym (c.copied.ensures ∙ (c.get.ensures.value ∙ (c.self.invariant.found c.args.name.now ∙ ap by_names c.self.view_is)))) (place_within c.args.self.now c.args.name.now)
