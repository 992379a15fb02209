-- Effects that are read have at most 64 variables in scope at one place.
use Rattle.std.proofs.Common.{◌≡◌, ℕ, ◌+◌, ◌≤◌, max, Option, List, map, length, subst, sym, ap, ◌∙◌}
use Rattle.mf_model.specs.declared.form.Word.{Word}
use Rattle.mf_model.specs.declared.form.RawExpr.{RawExpr}
use Rattle.mf_model.specs.declared.form.RawEffect.{RawEffect}
use Rattle.mf_model.specs.declared.form.RawEffect.TheOpen.{RawEffect-F}
use Rattle.mf_model.specs.declared.form.RawEffect.TheFolds.{ind-RawEffect, fold-roll-RawEffect, map-RawEffect}
use Rattle.mf_model.specs.declared.task.Term.{Term}
use Rattle.mf_model.specs.declared.task.Op.{Op}
use Rattle.mf_model.specs.declared.task.Effect.{Effect}
use Rattle.mf_model.specs.declared.task.Effect.TheVariants as e
use Rattle.mf_model.specs.declared.task.Effect.TheOpen.{Effect-F}
use Rattle.mf_model.specs.declared.task.Effect.TheViews.{roll-Effect}
use Rattle.mf_model.specs.declared.task.Effect.TheFolds.{fold-roll-Effect, map-Effect}
use Rattle.mf_types.specs.Names.{Declared}
use Rattle.mf_types.specs.Typing.{Binders, within, types_in, predicate_of, function_of, terms_of, expr_of, cond_of, literal, change, effect_step, effect_of}
use Rattle.mf_types.proofs.Given.{IfGiven, anything, then_given, made_given, both_given}
use Rattle.mf_model.specs.Trees.{greatest}
use Rattle.mf_model.specs.VariableScopes.{scope_of, effect_scope_step, effect_scope_of}
use Rattle.mf_types.proofs.RoomConditions.{fits_zero, fits_same, fits_max, parts_fit, within_fits, types_count, cond_fits}

rolled : (whole : Effect) (y : Effect-F Effect) → roll-Effect y ≡ whole → effect_scope_of whole ≡ effect_scope_step (map-Effect Effect ℕ effect_scope_of y)
rolled whole y is = ap effect_scope_of (sym is) ∙ fold-roll-Effect ℕ effect_scope_step y

module _ (declared : Declared) where
  abbrev Claim : RawEffect → Type 0
  Claim raw = (binders : Binders) → length binders ≤ 64 → IfGiven (λ a. length binders + effect_scope_of a ≤ 64) (effect_of declared raw binders)

  abbrev Piece : Type 0
  Piece = (raw : RawEffect) × Claim raw

  abbrev raw_of : Piece → RawEffect
  raw_of p = p.0

  literal_fits : (make : ℕ → List Term → Effect) → ((n : ℕ) (ts : List Term) → effect_scope_of (make n ts) ≡ 0) → (predicate : Word) (ws : List Word) (binders : Binders) → length binders ≤ 64 →
      IfGiven (λ a. length binders + effect_scope_of a ≤ 64) (literal declared make predicate ws binders)
  literal_fits make none predicate ws binders room =
      let Fit : Effect → Type 0 = λ a. length binders + effect_scope_of a ≤ 64 in
      then_given (λ _. Unit {0}) Fit (predicate_of declared predicate.text (length ws)) _ (anything (predicate_of declared predicate.text (length ws))) (λ n _.
      made_given (λ _. Unit {0}) Fit (λ ts. make n ts) (terms_of declared binders ws) (anything (terms_of declared binders ws)) (λ ts _.
      fits_zero (length binders) (effect_scope_of (make n ts)) room (none n ts)))

  change_fits : (op : Op) (function : Word) (ws : List Word) (value : RawExpr) (binders : Binders) → length binders ≤ 64 →
      IfGiven (λ a. length binders + effect_scope_of a ≤ 64) (change declared op function ws value binders)
  change_fits op function ws value binders room =
      let Fit : Effect → Type 0 = λ a. length binders + effect_scope_of a ≤ 64 in
      then_given (λ _. Unit {0}) Fit (function_of declared function.text (length ws)) _ (anything (function_of declared function.text (length ws))) (λ n _.
      then_given (λ _. Unit {0}) Fit (terms_of declared binders ws) _ (anything (terms_of declared binders ws)) (λ ts _.
      made_given (λ _. Unit {0}) Fit (λ a. e.Change op n ts a) (expr_of declared value binders) (anything (expr_of declared value binders)) (λ a _.
      fits_zero (length binders) (effect_scope_of (e.Change op n ts a)) room (rolled (e.Change op n ts a) (Effect-F.Change op n ts a) (e.rolls-Change op n ts a)))))

  Layer : RawEffect-F RawEffect → Type 0
  Layer y = (binders : Binders) → length binders ≤ 64 → IfGiven (λ a. length binders + effect_scope_of a ≤ 64) (effect_step declared (map-RawEffect RawEffect (Binders → Option Effect) (effect_of declared) y) binders)

  level : (y : RawEffect-F Piece) → Layer (map-RawEffect Piece RawEffect raw_of y)
  unfolding Layer
  level (RawEffect-F.Add predicate terms span) binders room =
      literal_fits e.Add (λ n ts. rolled (e.Add n ts) (Effect-F.Add n ts) (e.rolls-Add n ts)) predicate terms binders room
  level (RawEffect-F.Delete predicate terms span) binders room =
      literal_fits e.Delete (λ n ts. rolled (e.Delete n ts) (Effect-F.Delete n ts) (e.rolls-Delete n ts)) predicate terms binders room
  level (RawEffect-F.Change op function terms value span) binders room = change_fits op function terms value binders room
  level (RawEffect-F.Group parts span) binders room =
      made_given (λ found. length binders + greatest (map effect_scope_of found) ≤ 64) (λ a. length binders + effect_scope_of a ≤ 64) e.Group _
      (parts_fit effect_scope_of (effect_of declared) raw_of binders room (λ p. p.1 binders room) parts) (λ found h.
      fits_same (length binders) (effect_scope_of (e.Group found)) (greatest (map effect_scope_of found)) (rolled (e.Group found) (Effect-F.Group found) (e.rolls-Group found)) h)
  level (RawEffect-F.Each variables part span) binders room =
      let types = types_in declared variables in
      made_given (λ a. length binders + (length variables + effect_scope_of a) ≤ 64) (λ a. length binders + effect_scope_of a ≤ 64) (λ a. e.Each types a) (within variables (effect_of declared part.0) binders)
      (within_fits effect_scope_of variables (effect_of declared part.0) binders part.1) (λ a h.
      fits_same (length binders) (effect_scope_of (e.Each types a)) (length variables + effect_scope_of a)
      (rolled (e.Each types a) (Effect-F.Each types a) (e.rolls-Each types a) ∙ types_count declared variables (effect_scope_of a)) h)
  level (RawEffect-F.When condition part span) binders room =
      let Fit : Effect → Type 0 = λ a. length binders + effect_scope_of a ≤ 64 in
      both_given (λ a. length binders + scope_of a ≤ 64) Fit Fit e.When (cond_of declared condition binders) (effect_of declared part.0 binders) (cond_fits declared condition binders room) (part.1 binders room) (λ a b h k.
      fits_same (length binders) (effect_scope_of (e.When a b)) (max (scope_of a) (effect_scope_of b)) (rolled (e.When a b) (Effect-F.When a b) (e.rolls-When a b)) (fits_max (length binders) (scope_of a) (effect_scope_of b) h k))

  pub effect_fits : (raw : RawEffect) → Claim raw
  unfolding Layer
  effect_fits = ind-RawEffect Claim (λ y z is binders room.
      let at_layer = subst (λ v. Layer v) is (level z) binders in
      let by_reading = ap (λ (f : Binders → Option Effect). f binders) (fold-roll-RawEffect (Binders → Option Effect) (effect_step declared) y) in
      subst (λ o. IfGiven (λ a. length binders + effect_scope_of a ≤ 64) o) (sym by_reading) (at_layer room))
