-- Where no fault stands in an effect, it is read.
use Rattle.std.proofs.Common.{◌≡◌, ◌≤◌, Option, List, [], ◌∷◌, ◌++◌, map, length, subst, sym, ap, ◌∙◌}
use Rattle.mf_model.specs.declared.form.Word.{Word}
use Rattle.mf_model.specs.declared.form.RawExpr.{RawExpr}
use Rattle.mf_model.specs.declared.form.RawEffect.{RawEffect}
use Rattle.mf_model.specs.declared.form.RawEffect.TheOpen.{RawEffect-F}
use Rattle.mf_model.specs.declared.form.RawEffect.TheFolds.{ind-RawEffect, fold-roll-RawEffect, map-RawEffect}
use Rattle.mf_model.specs.declared.task.Op.{Op}
use Rattle.mf_model.specs.declared.task.Effect.{Effect}
use Rattle.mf_model.specs.declared.task.Effect.TheVariants as e
use Rattle.mf_model.specs.Options.{all_some}
use Rattle.mf_types.specs.declared.least.Fault.{Fault}
use Rattle.mf_types.specs.Arguments.{function_faults}
use Rattle.mf_types.specs.Conditions.{all_faults, cond_faults}
use Rattle.mf_types.specs.Effects as faults
use Rattle.mf_types.specs.Effects.{effect_faults}
use Rattle.mf_types.specs.Expressions.{seen}
use Rattle.mf_types.specs.Scopes.{Scope}
use Rattle.mf_types.specs.Sites.{Site}
use Rattle.mf_types.specs.Typing.{Binders, function_of, terms_of, expr_of, change, effect_step, effect_of}
use Rattle.mf_types.proofs.There.{IsThere, then_there, made_there, both_there, cons_there, first_empty, second_empty}
use Rattle.mf_types.proofs.ThereTerms.{names_in}
use Rattle.mf_types.proofs.ThereExpressions.{expr_there, function_there, arguments_there}
use Rattle.mf_types.proofs.ThereConditions.{Holds, atom_there, cond_there, quantified_there}

change_there : (site : Site) (scope : Scope) (op : Op) (function : Word) (ws : List Word) (value : RawExpr) → function_faults site scope function ws ≡ [] → (seen site value).faults scope ≡ [] → IsThere (change site.declared op function ws value (names_in scope))
change_there site scope op function ws value h k =
    then_there (function_of site.declared function.text (length ws)) _ (function_there site scope function ws h) (λ n.
    then_there (terms_of site.declared (names_in scope) ws) _ (arguments_there site scope function ws h) (λ ts.
    made_there (λ a. e.Change op n ts a) (expr_of site.declared value (names_in scope)) (expr_there site value scope k)))

abbrev Claim : Site → RawEffect → Type 0
Claim site e = Holds (effect_faults site e) (effect_of site.declared e)

abbrev Piece : Site → Type 0
Piece site = (e : RawEffect) × Claim site e

module _ (site : Site) where
  parts_there : (ps : List (Piece site)) (scope : Scope) → length scope ≤ 64 → all_faults (map (effect_faults site) (map (λ p. p.0) ps)) scope ≡ [] → IsThere (all_some (map (λ part. part (names_in scope)) (map (effect_of site.declared) (map (λ p. p.0) ps))))
  parts_there [] scope room h = tt
  parts_there (p ∷ ps) scope room h =
      cons_there (effect_of site.declared p.0 (names_in scope)) _
      (p.1 scope room (first_empty (effect_faults site p.0 scope) _ h))
      (parts_there ps scope room (second_empty (effect_faults site p.0 scope) _ h))

  Layer : RawEffect-F RawEffect → Type 0
  Layer y = Holds (faults.effect_step site (map-RawEffect RawEffect (Scope → List Fault) (effect_faults site) y)) (effect_step site.declared (map-RawEffect RawEffect (Binders → Option Effect) (effect_of site.declared) y))

  level : (y : RawEffect-F (Piece site)) → Layer (map-RawEffect (Piece site) RawEffect (λ p. p.0) y)
  unfolding Layer
  level (RawEffect-F.Add predicate terms span) scope room h = atom_there e.Add site scope predicate terms h
  level (RawEffect-F.Delete predicate terms span) scope room h = atom_there e.Delete site scope predicate terms h
  level (RawEffect-F.Change op function terms value span) scope room h =
      let parts = first_empty (function_faults site scope function terms ++ (seen site value).faults scope) _ h in
      change_there site scope op function terms value (first_empty (function_faults site scope function terms) _ parts) (second_empty (function_faults site scope function terms) _ parts)
  level (RawEffect-F.Group parts span) scope room h = made_there e.Group _ (parts_there parts scope room h)
  level (RawEffect-F.Each variables part span) scope room h = made_there _ _ (quantified_there site variables (effect_faults site part.0) (effect_of site.declared part.0) part.1 scope room h)
  level (RawEffect-F.When condition part span) scope room h =
      both_there e.When _ _ (cond_there site condition scope room (first_empty (cond_faults site condition scope) _ h)) (part.1 scope room (second_empty (cond_faults site condition scope) _ h))

  pub effect_there : (e : RawEffect) → Claim site e
  unfolding Layer
  effect_there = ind-RawEffect (Claim site) (λ y z is scope room h.
      let at_layer = subst (λ v. Layer v) is (level z) scope room in
      let by_faults = ap (λ (f : Scope → List Fault). f scope) (fold-roll-RawEffect (Scope → List Fault) (faults.effect_step site) y) in
      let by_reading = ap (λ (f : Binders → Option Effect). f (names_in scope)) (fold-roll-RawEffect (Binders → Option Effect) (effect_step site.declared) y) in
      subst (λ o. IsThere o) (sym by_reading) (at_layer (sym by_faults ∙ h)))
