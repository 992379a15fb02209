-- The `when` effects of an effect that is read are those of its form.
use Rattle.std.proofs.Common.{◌≡◌, ℕ, ◌+◌, ◌≤◌, max, Option, List, [], ◌∷◌, map, length, refl, subst, sym, ap, ◌∙◌, All}
use Rattle.mf_model.specs.declared.form.Word.{Word}
use Rattle.mf_model.specs.declared.form.RawAction.{RawAction}
use Rattle.mf_model.specs.declared.form.RawExpr.{RawExpr}
use Rattle.mf_model.specs.declared.form.RawEffect.{RawEffect}
use Rattle.mf_model.specs.declared.form.RawEffect.TheOpen.{RawEffect-F}
use Rattle.mf_model.specs.declared.form.RawEffect.TheViews.{roll-RawEffect}
use Rattle.mf_model.specs.declared.form.RawEffect.TheFolds.{ind-RawEffect, fold-roll-RawEffect, map-RawEffect}
use Rattle.mf_model.specs.declared.form.Domain.{Domain}
use Rattle.mf_model.specs.declared.form.Problem.{Problem}
use Rattle.mf_model.specs.declared.task.Action.{Action}
use Rattle.mf_model.specs.declared.task.Op.{Op}
use Rattle.mf_model.specs.declared.task.Term.{Term}
use Rattle.mf_model.specs.declared.task.Effect.{Effect}
use Rattle.mf_model.specs.declared.task.Effect.TheVariants as e
use Rattle.mf_model.specs.declared.task.Effect.TheOpen.{Effect-F}
use Rattle.mf_model.specs.declared.task.Effect.TheViews.{roll-Effect}
use Rattle.mf_model.specs.declared.task.Effect.TheFolds.{fold-roll-Effect, map-Effect}
use Rattle.mf_model.specs.declared.task.TypedTask.{TypedTask}
use Rattle.mf_model.specs.Options.{all_some}
use Rattle.mf_model.specs.ResolvedTask.{when_step, when_depth}
use Rattle.mf_model.specs.Trees.{greatest}
use Rattle.mf_types.specs.Names.{Declared, declared_by}
use Rattle.mf_types.specs.Tasks.{action_of, IsTaskOf}
use Rattle.mf_types.specs.Typing.{Binders, inside, within, types_in, predicate_of, function_of, terms_of, expr_of, cond_of, literal, change, effect_step, effect_of}
use Rattle.mf_types.specs.Written as written
use Rattle.mf_types.specs.Written.{IsWritten}
use Rattle.mf_types.proofs.Given.{IfGiven, anything, taken, then_given, made_given, both_given}
use Rattle.mf_types.proofs.ValidTask.{each_written}

rolled : (whole : Effect) (y : Effect-F Effect) → roll-Effect y ≡ whole → when_depth whole ≡ when_step (map-Effect Effect ℕ when_depth y)
rolled whole y is = ap when_depth (sym is) ∙ fold-roll-Effect ℕ when_step y

module _ (declared : Declared) where
  abbrev Claim : RawEffect → Type 0
  Claim raw = (binders : Binders) → IfGiven (λ a. when_depth a ≡ written.when_depth raw) (effect_of declared raw binders)

  abbrev Piece : Type 0
  Piece = (raw : RawEffect) × Claim raw

  abbrev raw_of : Piece → RawEffect
  raw_of p = p.0

  literal_flat : (make : ℕ → List Term → Effect) → ((n : ℕ) (ts : List Term) → when_depth (make n ts) ≡ 0) → (predicate : Word) (ws : List Word) (binders : Binders) → IfGiven (λ a. when_depth a ≡ 0) (literal declared make predicate ws binders)
  literal_flat make none predicate ws binders =
      let Flat : Effect → Type 0 = λ a. when_depth a ≡ 0 in
      then_given (λ _. Unit {0}) Flat (predicate_of declared predicate.text (length ws)) _ (anything (predicate_of declared predicate.text (length ws))) (λ n _.
      made_given (λ _. Unit {0}) Flat (λ ts. make n ts) (terms_of declared binders ws) (anything (terms_of declared binders ws)) (λ ts _. none n ts))

  change_flat : (op : Op) (function : Word) (ws : List Word) (value : RawExpr) (binders : Binders) → IfGiven (λ a. when_depth a ≡ 0) (change declared op function ws value binders)
  change_flat op function ws value binders =
      let Flat : Effect → Type 0 = λ a. when_depth a ≡ 0 in
      then_given (λ _. Unit {0}) Flat (function_of declared function.text (length ws)) _ (anything (function_of declared function.text (length ws))) (λ n _.
      then_given (λ _. Unit {0}) Flat (terms_of declared binders ws) _ (anything (terms_of declared binders ws)) (λ ts _.
      made_given (λ _. Unit {0}) Flat (λ a. e.Change op n ts a) (expr_of declared value binders) (anything (expr_of declared value binders)) (λ a _.
      rolled (e.Change op n ts a) (Effect-F.Change op n ts a) (e.rolls-Change op n ts a))))

  parts_alike : (ps : List Piece) (binders : Binders) → IfGiven (λ found. greatest (map when_depth found) ≡ greatest (map written.when_depth (map raw_of ps))) (all_some (map (λ part. part binders) (map (effect_of declared) (map raw_of ps))))
  parts_alike [] binders = refl
  parts_alike (p ∷ ps) binders =
      let others = greatest (map written.when_depth (map raw_of ps)) in
      let Rest : List Effect → Type 0 = λ found. greatest (map when_depth found) ≡ others in
      let Whole : List Effect → Type 0 = λ found. greatest (map when_depth found) ≡ max (written.when_depth p.0) others in
      then_given (λ a. when_depth a ≡ written.when_depth p.0) Whole (effect_of declared p.0 binders) _ (p.1 binders) (λ a here.
      made_given Rest Whole (λ found. a ∷ found) _ (parts_alike ps binders) (λ found rest.
      ap (λ (n : ℕ). max n (greatest (map when_depth found))) here ∙ ap (λ (n : ℕ). max (written.when_depth p.0) n) rest))

  Layer : RawEffect-F RawEffect → Type 0
  Layer y = (binders : Binders) → IfGiven (λ a. when_depth a ≡ written.when_step (map-RawEffect RawEffect ℕ written.when_depth y)) (effect_step declared (map-RawEffect RawEffect (Binders → Option Effect) (effect_of declared) y) binders)

  level : (y : RawEffect-F Piece) → Layer (map-RawEffect Piece RawEffect raw_of y)
  unfolding Layer
  level (RawEffect-F.Add predicate terms span) binders =
      literal_flat e.Add (λ n ts. rolled (e.Add n ts) (Effect-F.Add n ts) (e.rolls-Add n ts)) predicate terms binders
  level (RawEffect-F.Delete predicate terms span) binders =
      literal_flat e.Delete (λ n ts. rolled (e.Delete n ts) (Effect-F.Delete n ts) (e.rolls-Delete n ts)) predicate terms binders
  level (RawEffect-F.Change op function terms value span) binders = change_flat op function terms value binders
  level (RawEffect-F.Group parts span) binders =
      let most = greatest (map written.when_depth (map raw_of parts)) in
      made_given (λ found. greatest (map when_depth found) ≡ most) (λ a. when_depth a ≡ most) e.Group _ (parts_alike parts binders) (λ found h.
      rolled (e.Group found) (Effect-F.Group found) (e.rolls-Group found) ∙ h)
  level (RawEffect-F.Each variables part span) binders =
      let types = types_in declared variables in
      let Same : Effect → Type 0 = λ a. when_depth a ≡ written.when_depth part.0 in
      made_given Same Same (λ a. e.Each types a) (within variables (effect_of declared part.0) binders)
      (then_given (λ _. Unit {0}) Same (inside binders variables) (effect_of declared part.0) (anything (inside binders variables)) (λ inner _. part.1 inner)) (λ a h.
      rolled (e.Each types a) (Effect-F.Each types a) (e.rolls-Each types a) ∙ h)
  level (RawEffect-F.When condition part span) binders =
      both_given (λ _. Unit {0}) (λ a. when_depth a ≡ written.when_depth part.0) (λ a. when_depth a ≡ 1 + written.when_depth part.0) e.When (cond_of declared condition binders) (effect_of declared part.0 binders)
      (anything (cond_of declared condition binders)) (part.1 binders) (λ a b _ h.
      rolled (e.When a b) (Effect-F.When a b) (e.rolls-When a b) ∙ ap (λ (n : ℕ). 1 + n) h)

  effect_alike : (raw : RawEffect) → Claim raw
  unfolding Layer
  effect_alike = ind-RawEffect Claim (λ y z is binders.
      let at_layer = subst (λ v. Layer v) is (level z) binders in
      let by_form = fold-roll-RawEffect ℕ written.when_step y in
      let by_reading = ap (λ (f : Binders → Option Effect). f binders) (fold-roll-RawEffect (Binders → Option Effect) (effect_step declared) y) in
      subst (λ o. IfGiven (λ a. when_depth a ≡ written.when_depth (roll-RawEffect y)) o) (sym by_reading)
      (subst (λ (n : ℕ). IfGiven (λ a. when_depth a ≡ n) (effect_step declared (map-RawEffect RawEffect (Binders → Option Effect) (effect_of declared) y) binders)) (sym by_form) at_layer))

  abbrev IsFlat : Action → Type 0
  IsFlat action = when_depth action.effect ≤ 1

  action_flat : (raw : RawAction) → written.when_depth raw.effect ≤ 1 → IfGiven IsFlat (action_of declared raw)
  unfolding action_of
  action_flat raw few =
      let types = types_in declared raw.parameters in
      then_given (λ _. Unit {0}) IsFlat (inside [] raw.parameters) _ (anything (inside [] raw.parameters)) (λ binders _.
      then_given (λ _. Unit {0}) IsFlat (cond_of declared raw.condition binders) _ (anything (cond_of declared raw.condition binders)) (λ condition _.
      made_given (λ a. when_depth a ≡ written.when_depth raw.effect) IsFlat (λ effect. record { name = raw.word.text; parameters = types; condition = condition; effect = effect }) (effect_of declared raw.effect binders)
      (effect_alike raw.effect binders) (λ effect same. subst (λ (n : ℕ). n ≤ 1) (sym same) few)))

pub task_flat : (d : Domain) (p : Problem) (task : TypedTask) → IsWritten d p → IsTaskOf d p task → All (λ action. when_depth action.effect ≤ 1) task.actions
task_flat d p task is_written is =
    let declared = declared_by d p in
    taken (All (IsFlat declared)) _ task.actions is.actions
    (each_written (λ raw. written.when_depth raw.effect ≤ 1) (IsFlat declared) (action_of declared) (action_flat declared) d.actions is_written.flat)
