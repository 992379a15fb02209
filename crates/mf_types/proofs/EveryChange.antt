-- What holds of each numeric effect and each condition that is read holds throughout an effect that is read.
use Rattle.std.proofs.Common.{◌≡◌, ℕ, Bool, true, false, Option, List, [], map, length, subst, sym, ap, ◌∙◌}
use Rattle.std.specs.List.{list_all}
use Rattle.mf_model.proofs.Choices.{and_true}
use Rattle.mf_model.specs.declared.token.Span.{Span}
use Rattle.mf_model.specs.declared.form.Word.{Word}
use Rattle.mf_model.specs.declared.form.RawCond.{RawCond}
use Rattle.mf_model.specs.declared.form.RawExpr.{RawExpr}
use Rattle.mf_model.specs.declared.form.RawEffect.{RawEffect}
use Rattle.mf_model.specs.declared.form.RawEffect.TheOpen.{RawEffect-F}
use Rattle.mf_model.specs.declared.form.RawEffect.TheFolds.{ind-RawEffect, fold-roll-RawEffect, map-RawEffect}
use Rattle.mf_model.specs.declared.task.Op.{Op}
use Rattle.mf_model.specs.declared.task.Term.{Term}
use Rattle.mf_model.specs.declared.task.Expr.{Expr}
use Rattle.mf_model.specs.declared.task.Cond.{Cond}
use Rattle.mf_model.specs.declared.task.Effect.{Effect}
use Rattle.mf_model.specs.declared.task.Effect.TheVariants as e
use Rattle.mf_model.specs.declared.task.Effect.TheOpen.{Effect-F}
use Rattle.mf_model.specs.declared.task.Effect.TheViews.{roll-Effect}
use Rattle.mf_model.specs.declared.task.Effect.TheFolds.{fold-roll-Effect, map-Effect}
use Rattle.mf_model.specs.Expressions.{every_change_step, every_change}
use Rattle.mf_types.specs.declared.least.Fault.{Fault}
use Rattle.mf_types.specs.Conditions.{cond_faults}
use Rattle.mf_types.specs.Effects as faults
use Rattle.mf_types.specs.Effects.{change_faults, effect_faults}
use Rattle.mf_types.specs.Quantified as quantified
use Rattle.mf_types.specs.Scopes.{Scope}
use Rattle.mf_types.specs.Sites.{Site}
use Rattle.mf_types.specs.Typing.{Binders, within, types_in, predicate_of, function_of, terms_of, expr_of, cond_of, literal, change, effect_step, effect_of}
use Rattle.mf_types.specs.Written as written
use Rattle.mf_types.specs.Written.{is_written_expr, is_written_cond, is_written_effect}
use Rattle.mf_types.proofs.EverySide.{parts_pass, within_pass}
use Rattle.mf_types.proofs.Given.{IfGiven, anything, then_given, made_given, both_given, first_true, second_true}
use Rattle.mf_types.proofs.There.{first_empty, second_empty}

rolled : (test : Op → ℕ → Expr → Bool) (condition : Cond → Bool) (whole : Effect) (y : Effect-F Effect) → roll-Effect y ≡ whole → every_change test condition whole ≡ every_change_step test condition (map-Effect Effect Bool (every_change test condition) y)
rolled test condition whole y is = ap (every_change test condition) (sym is) ∙ fold-roll-Effect Bool (every_change_step test condition) y

-- where no fault is found in a numeric effect, what is read of it passes the test
abbrev pub ChangePasses : Site → (Op → ℕ → Expr → Bool) → Type 0
ChangePasses site test =
    (op : Op) (function : Word) (terms : List Word) (raw : RawExpr) (span : Span) (scope : Scope) → is_written_expr false raw ≡ true → change_faults site op function terms raw span scope ≡ []
    → (n : ℕ) (binders : Binders) → IfGiven (λ a. test op n a ≡ true) (expr_of site.declared raw binders)

abbrev pub CondPasses : Site → (Cond → Bool) → Type 0
CondPasses site condition =
    (raw : RawCond) (scope : Scope) → is_written_cond raw ≡ true → cond_faults site raw scope ≡ [] → (binders : Binders) → IfGiven (λ a. condition a ≡ true) (cond_of site.declared raw binders)

module _ (site : Site) (test : Op → ℕ → Expr → Bool) (condition : Cond → Bool) (changes : ChangePasses site test) (conditions : CondPasses site condition) where
  abbrev Passes : Effect → Type 0
  Passes a = every_change test condition a ≡ true

  abbrev Claim : RawEffect → Type 0
  Claim raw = (scope : Scope) → is_written_effect raw ≡ true → effect_faults site raw scope ≡ [] → (binders : Binders) → IfGiven Passes (effect_of site.declared raw binders)

  abbrev Piece : Type 0
  Piece = (raw : RawEffect) × Claim raw

  abbrev raw_of : Piece → RawEffect
  raw_of p = p.0

  literal_passes : (make : ℕ → List Term → Effect) → ((n : ℕ) (ts : List Term) → every_change test condition (make n ts) ≡ true) → (predicate : Word) (ws : List Word) (binders : Binders) → IfGiven Passes (literal site.declared make predicate ws binders)
  literal_passes make each predicate ws binders =
      then_given (λ _. Unit {0}) Passes (predicate_of site.declared predicate.text (length ws)) _ (anything (predicate_of site.declared predicate.text (length ws))) (λ n _.
      made_given (λ _. Unit {0}) Passes (λ ts. make n ts) (terms_of site.declared binders ws) (anything (terms_of site.declared binders ws)) (λ ts _. each n ts))

  change_passes : (op : Op) (function : Word) (ws : List Word) (value : RawExpr) (span : Span) (scope : Scope) → is_written_expr false value ≡ true → change_faults site op function ws value span scope ≡ [] → (binders : Binders) →
      IfGiven Passes (change site.declared op function ws value binders)
  change_passes op function ws value span scope w h binders =
      then_given (λ _. Unit {0}) Passes (function_of site.declared function.text (length ws)) _ (anything (function_of site.declared function.text (length ws))) (λ n _.
      then_given (λ _. Unit {0}) Passes (terms_of site.declared binders ws) _ (anything (terms_of site.declared binders ws)) (λ ts _.
      made_given (λ a. test op n a ≡ true) Passes (λ a. e.Change op n ts a) (expr_of site.declared value binders) (changes op function ws value span scope w h n binders) (λ a k.
      rolled test condition (e.Change op n ts a) (Effect-F.Change op n ts a) (e.rolls-Change op n ts a) ∙ k)))

  Layer : RawEffect-F RawEffect → Type 0
  Layer y =
      (scope : Scope) → written.effect_step (map-RawEffect RawEffect Bool is_written_effect y) ≡ true → faults.effect_step site (map-RawEffect RawEffect (Scope → List Fault) (effect_faults site) y) scope ≡ [] → (binders : Binders)
      → IfGiven Passes (effect_step site.declared (map-RawEffect RawEffect (Binders → Option Effect) (effect_of site.declared) y) binders)

  level : (y : RawEffect-F Piece) → Layer (map-RawEffect Piece RawEffect raw_of y)
  unfolding Layer
  level (RawEffect-F.Add predicate terms span) scope w h binders =
      literal_passes e.Add (λ n ts. rolled test condition (e.Add n ts) (Effect-F.Add n ts) (e.rolls-Add n ts)) predicate terms binders
  level (RawEffect-F.Delete predicate terms span) scope w h binders =
      literal_passes e.Delete (λ n ts. rolled test condition (e.Delete n ts) (Effect-F.Delete n ts) (e.rolls-Delete n ts)) predicate terms binders
  level (RawEffect-F.Change op function terms value span) scope w h binders = change_passes op function terms value span scope w h binders
  level (RawEffect-F.Group parts span) scope w h binders =
      made_given (λ found. list_all (λ part. part) (map (every_change test condition) found) ≡ true) Passes e.Group _
      (parts_pass (every_change test condition) is_written_effect (effect_faults site) (effect_of site.declared) raw_of scope binders (λ p k l. p.1 scope k l binders) parts w h) (λ found k.
      rolled test condition (e.Group found) (Effect-F.Group found) (e.rolls-Group found) ∙ k)
  level (RawEffect-F.Each variables part span) scope w h binders =
      let types = types_in site.declared variables in
      made_given Passes Passes (λ a. e.Each types a) (within variables (effect_of site.declared part.0) binders)
      (within_pass (every_change test condition) variables (effect_of site.declared part.0) binders
      (part.1 (quantified.inside site scope variables) w (second_empty (quantified.variable_faults site (length scope) variables) _ h))) (λ a k.
      rolled test condition (e.Each types a) (Effect-F.Each types a) (e.rolls-Each types a) ∙ k)
  level (RawEffect-F.When guard part span) scope w h binders =
      both_given (λ a. condition a ≡ true) Passes Passes e.When (cond_of site.declared guard binders) (effect_of site.declared part.0 binders)
      (conditions guard scope (first_true (is_written_cond guard) (is_written_effect part.0) w) (first_empty (cond_faults site guard scope) _ h) binders)
      (part.1 scope (second_true (is_written_cond guard) (is_written_effect part.0) w) (second_empty (cond_faults site guard scope) _ h) binders) (λ a b k l.
      rolled test condition (e.When a b) (Effect-F.When a b) (e.rolls-When a b) ∙ and_true (condition a) (every_change test condition b) k l)

  pub changes_pass : (raw : RawEffect) → Claim raw
  unfolding Layer
  changes_pass = ind-RawEffect Claim (λ y z is scope w h binders.
      let at_layer = subst (λ v. Layer v) is (level z) scope in
      let by_form = fold-roll-RawEffect Bool written.effect_step y in
      let by_faults = ap (λ (f : Scope → List Fault). f scope) (fold-roll-RawEffect (Scope → List Fault) (faults.effect_step site) y) in
      let by_reading = ap (λ (f : Binders → Option Effect). f binders) (fold-roll-RawEffect (Binders → Option Effect) (effect_step site.declared) y) in
      subst (λ o. IfGiven Passes o) (sym by_reading) (at_layer (sym by_form ∙ w) (sym by_faults ∙ h) binders))
