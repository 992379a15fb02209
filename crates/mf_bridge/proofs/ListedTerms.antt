-- The terms that the actions of a packed task change are among its terms, but for those of costs.
use Rattle.std.proofs.Common.{◌≡◌, ℕ, Bool, true, false, ◌||◌, List, [], ◌∷◌, ◌++◌, map, Some, refl, sym, subst, ap, ◌∙◌}
use Rattle.std.specs.Prelude.{if◌then◌else◌, slice_get, Contains}
use Rattle.std.specs.List.{AllByRecursion, filter, flat_map, fold, list_any}
use Rattle.std.proofs.lemmas.Bool.{false≢true, or_right}
use Rattle.mf_model.specs.declared.task.Action.{Action}
use Rattle.mf_model.specs.declared.task.Cell.{Cell}
use Rattle.mf_model.specs.declared.task.Effect.{Effect}
use Rattle.mf_model.specs.declared.task.Effect.TheOpen.{Effect-F}
use Rattle.mf_model.specs.declared.task.Effect.TheFolds.{ind-Effect, fold-roll-Effect, map-Effect}
use Rattle.mf_model.specs.declared.task.TypedTask.{TypedTask}
use Rattle.mf_model.specs.declared.state.Instance.{Instance}
use Rattle.mf_model.specs.Application.{Change, Added, Deleted, Changed, firing_of, firing_step}
use Rattle.mf_model.specs.Meaning.{holds_in}
use Rattle.mf_model.specs.Objects.{bindings, kinds_of}
use Rattle.mf_model.specs.Views.{Look}
use Rattle.mf_meaning.proofs.NumberOrder.{same_key-self}
use Rattle.mf_task.specs.Grounding.{cell_of, condition_cells, effect_cells, effect_cells_step, is_before_cell, is_row_cell, is_same_cell, terms_of, with_action, with_cell}
use Rattle.mf_bridge.proofs.ActionsMade.{of_instance}
use Rattle.mf_bridge.proofs.Lists.{all_append, all_back, all_front, unfiltered}

abbrev pub IsTerm : List Cell → Cell → Type 0
IsTerm cells c = list_any (is_same_cell c.function c.objects) cells ≡ true

-- lists of terms

same_or : (b : Bool) → b ≡ true → (rest : Bool) → (b || rest) ≡ true
same_or true e rest = refl
same_or false e rest = absurd (false≢true e)

more_lists : (cells : List Cell) (a : Cell) → IsTerm (with_cell cells a) a
more_lists [] a = same_or (is_same_cell a.function a.objects a) (same_key-self a.function a.objects) false
more_lists (b ∷ bs) a = by (is_same_cell a.function a.objects b) (is_before_cell a b) refl (more_lists bs a)
  where
    by : (same before : Bool) → is_same_cell a.function a.objects b ≡ same → IsTerm (with_cell bs a) a → IsTerm (if same then b ∷ bs else (if before then a ∷ b ∷ bs else b ∷ with_cell bs a)) a
    by true before e rest = same_or (is_same_cell a.function a.objects b) e _
    by false true e rest = same_or (is_same_cell a.function a.objects a) (same_key-self a.function a.objects) _
    by false false e rest = or_right (is_same_cell a.function a.objects b) _ rest

more_keeps : (test : Cell → Bool) (cells : List Cell) (a : Cell) → list_any test cells ≡ true → list_any test (with_cell cells a) ≡ true
more_keeps test [] a e = absurd (false≢true e)
more_keeps test (b ∷ bs) a e = by (is_same_cell a.function a.objects b) (is_before_cell a b) (test b) e (more_keeps test bs a) refl
  where
    by : (same before here : Bool) → (here || list_any test bs) ≡ true → (list_any test bs ≡ true → list_any test (with_cell bs a) ≡ true) → test b ≡ here → list_any test (if same then b ∷ bs else (if before then a ∷ b ∷ bs else b ∷ with_cell bs a)) ≡ true
    by true before here e rest h = ap (λ (x : Bool). x || list_any test bs) h ∙ e
    by false true here e rest h = or_right (test a) _ (ap (λ (x : Bool). x || list_any test bs) h ∙ e)
    by false false true e rest h = same_or (test b) h _
    by false false false e rest h = or_right (test b) _ (rest e)

fold_keeps : (test : Cell → Bool) (cells others : List Cell) → list_any test cells ≡ true → list_any test (fold with_cell cells others) ≡ true
fold_keeps test cells [] e = e
fold_keeps test cells (a ∷ others) e = fold_keeps test (with_cell cells a) others (more_keeps test cells a e)

fold_lists : (cells others : List Cell) → AllByRecursion (IsTerm (fold with_cell cells others)) others
fold_lists cells [] = tt
fold_lists cells (a ∷ others) = (fold_keeps (is_same_cell a.function a.objects) (with_cell cells a) others (more_lists cells a), fold_lists (with_cell cells a) others)

module _ (task : TypedTask) (instances : List Instance) where
  abbrev pub IsRowTerm : Cell → Type 0
  IsRowTerm c = is_row_cell task c ≡ true → IsTerm (terms_of task instances) c

  abbrev own_cells : Action → List ℕ → List Cell
  own_cells action b = condition_cells (kinds_of task) action.condition b ++ effect_cells (kinds_of task) action.effect b

  all_terms : AllByRecursion IsRowTerm (map (λ v. v.cell) task.values ++ condition_cells (kinds_of task) task.goal [] ++ flat_map (with_action task own_cells) instances)
  all_terms =
      unfiltered (IsTerm (terms_of task instances)) (is_row_cell task) (map (λ v. v.cell) task.values ++ condition_cells (kinds_of task) task.goal [] ++ flat_map (with_action task own_cells) instances)
      (fold_lists [] (filter (is_row_cell task) (map (λ v. v.cell) task.values ++ condition_cells (kinds_of task) task.goal [] ++ flat_map (with_action task own_cells) instances)))

  pub effect_terms : (instance : Instance) (action : Action) → Contains instances instance → slice_get task.actions instance.action ≡ Some action → AllByRecursion IsRowTerm (effect_cells (kinds_of task) action.effect instance.objects)
  effect_terms instance action contained found =
      let last = all_back IsRowTerm (map (λ v. v.cell) task.values ++ condition_cells (kinds_of task) task.goal []) (flat_map (with_action task own_cells) instances) all_terms in
      all_back IsRowTerm (condition_cells (kinds_of task) action.condition instance.objects) (effect_cells (kinds_of task) action.effect instance.objects)
      (of_instance IsRowTerm task own_cells instances instance action last contained found)

-- the terms of the changes that fire

module _ (objects : List (List ℕ)) (look : Look) (P : Cell → Type 0) where
  abbrev pub ChangesA : Change → Type 0
  ChangesA (Added predicate os) = Unit {0}
  ChangesA (Deleted predicate os) = Unit {0}
  ChangesA (Changed op function os value) = P (cell_of function os)

  abbrev Claim : Effect → Type 0
  Claim e = (b : List ℕ) → AllByRecursion P (effect_cells objects e b) → AllByRecursion ChangesA (firing_of objects look e b)

  abbrev Piece : Type 0
  Piece = (e : Effect) × Claim e

  group : (ps : List Piece) (b : List ℕ) → AllByRecursion P (flat_map (λ part. part b) (map (effect_cells objects) (map (λ p. p.0) ps))) → AllByRecursion ChangesA (flat_map (λ part. part b) (map (firing_of objects look) (map (λ p. p.0) ps)))
  group [] b all = tt
  group (p ∷ ps) b all =
      let here = effect_cells objects p.0 b in
      let others = flat_map (λ part. part b) (map (effect_cells objects) (map (λ p. p.0) ps)) in
      all_append ChangesA (firing_of objects look p.0 b) (flat_map (λ part. part b) (map (firing_of objects look) (map (λ p. p.0) ps)))
      (p.1 b (all_front P here others all)) (group ps b (all_back P here others all))

  each : (p : Piece) (bs : List (List ℕ)) → AllByRecursion P (flat_map (effect_cells objects p.0) bs) → AllByRecursion ChangesA (flat_map (firing_of objects look p.0) bs)
  each p [] all = tt
  each p (b ∷ bs) all =
      let here = effect_cells objects p.0 b in
      let others = flat_map (effect_cells objects p.0) bs in
      all_append ChangesA (firing_of objects look p.0 b) (flat_map (firing_of objects look p.0) bs) (p.1 b (all_front P here others all)) (each p bs (all_back P here others all))

  when : (holds : Bool) (changes : List Change) → AllByRecursion ChangesA changes → AllByRecursion ChangesA (if holds then changes else [])
  when true changes all = all
  when false changes all = tt

  Layer : Effect-F Effect → Type 0
  Layer x = (b : List ℕ) → AllByRecursion P (effect_cells_step objects (map-Effect Effect (List ℕ → List Cell) (effect_cells objects) x) b) → AllByRecursion ChangesA (firing_step objects look (map-Effect Effect (List ℕ → List Change) (firing_of objects look) x) b)

  level : (y : Effect-F Piece) → Layer (map-Effect Piece Effect (λ p. p.0) y)
  unfolding Layer
  level (Effect-F.Add predicate terms) b all = (tt, tt)
  level (Effect-F.Delete predicate terms) b all = (tt, tt)
  level (Effect-F.Change op function terms value) b all = (all.0, tt)
  level (Effect-F.Group parts) b all = group parts b all
  level (Effect-F.Each variables part) b all = each part (bindings objects variables b) all
  level (Effect-F.When condition part) b all =
      when (holds_in objects look condition b) (firing_of objects look part.0 b) (part.1 b (all_back P (condition_cells objects condition b) (effect_cells objects part.0 b) all))

  pub fired_cells : (e : Effect) → Claim e
  unfolding Layer
  fired_cells = ind-Effect Claim (λ x y is b all.
      let cells = ap (λ (f : List ℕ → List Cell). f b) (fold-roll-Effect (List ℕ → List Cell) (effect_cells_step objects) x) in
      let at_layer = subst (λ z. Layer z) is (level y) b (subst (AllByRecursion P) cells all) in
      subst (AllByRecursion ChangesA) (sym (ap (λ (f : List ℕ → List Change). f b) (fold-roll-Effect (List ℕ → List Change) (firing_step objects look) x))) at_layer)
