-- The forms of the packed task of a resolved task are in lowest terms.
use Rattle.std.proofs.Common.{◌≡◌, ℕ, zero, suc, Bool, true, false, if◌then◌else◌, List, [], ◌∷◌, ◌++◌, map, get_or, Option, Some, None, refl, sym, subst, ◌∙◌}
use Rattle.std.specs.Prelude.{pos, slice_get, IfSome}
use Rattle.std.specs.List.{AllByRecursion, flat_map, fold, list_all, list_any}
use Rattle.std.proofs.lemmas.Bool.{and_parts}
use Rattle.std.proofs.lemmas.List.Elements.{All-from_recursion}
use Rattle.mf_fraction.specs.Exact.{Proper, whole}
use Rattle.mf_fraction.proofs.Reduced.{whole-proper}
use Rattle.mf_model.specs.declared.task.Action.{Action}
use Rattle.mf_model.specs.declared.task.Cell.{Cell}
use Rattle.mf_model.specs.declared.task.Cond.{Cond}
use Rattle.mf_model.specs.declared.task.Cond.TheOpen.{Cond-F}
use Rattle.mf_model.specs.declared.task.Cond.TheFolds.{ind-Cond, fold-roll-Cond, map-Cond}
use Rattle.mf_model.specs.declared.task.Effect.{Effect}
use Rattle.mf_model.specs.declared.task.Effect.TheOpen.{Effect-F}
use Rattle.mf_model.specs.declared.task.Effect.TheFolds.{ind-Effect, fold-roll-Effect, map-Effect}
use Rattle.mf_model.specs.declared.task.TypedTask.{TypedTask}
use Rattle.mf_model.specs.declared.state.Instance.{Instance}
use Rattle.mf_model.specs.Expressions.{every_change, every_change_step, every_side, every_side_step}
use Rattle.mf_model.specs.Objects.{bindings, kinds_of}
use Rattle.mf_model.specs.ResolvedTask.{IsResolvedTask}
use Rattle.mf_model.specs.SearchStates.{with_costs}
use Rattle.mf_model.specs.States.{look_of, start_of, value_at}
use Rattle.mf_model.specs.Views.{Look}
use Rattle.mf_task.specs.declared.form.Form.{Form}
use Rattle.mf_task.specs.declared.form.Part.{Part}
use Rattle.mf_task.specs.Grounding.{Numbering, changing_form, same_form, compared_form, comparison_forms, condition_forms, condition_forms_step, effect_forms, effect_forms_step, forms_of, functions_in, functions_of, ground_of, numbering_of, some_form, terms_of, with_action, with_form, with_some_action}
use Rattle.mf_task.specs.LinearForms.{constant_form, form_of}
use Rattle.mf_task.specs.NumberedTasks.{HasProperForms, IsProperForm}
use Rattle.mf_task.specs.Rows.{Sight, sight_of}
use Rattle.mf_task.specs.RowStates.{state_of}
use Rattle.mf_bridge.specs.Shows.{Shows}
use Rattle.mf_bridge.specs.StoredRows.{HasLowestValues}
use Rattle.mf_bridge.proofs.Expressions.{compared_form_lowest, expression_tells}
use Rattle.mf_bridge.proofs.FiredDeeds.{ChangesPassAll, change_passes, changes_pass_all, value_passes}
use Rattle.mf_bridge.proofs.GroundConditions.{PassesAll, Test, passes, passes_all, readable_from}
use Rattle.mf_bridge.proofs.ResolvedTasks.{condition_readable, effect_readable, goal_readable}
use Rattle.mf_bridge.proofs.RowSights.{row_shows, start_is_lowest}
use Rattle.mf_bridge.proofs.StartRows.{start_has_shape}
use Rattle.mf_bridge.proofs.Weights.{IsLowestForm}

abbrev AreLowestForms : List Form → Type 0
AreLowestForms = AllByRecursion IsLowestForm

joined : (xs ys : List Form) → AreLowestForms xs → AreLowestForms ys → AreLowestForms (xs ++ ys)
joined [] ys a b = b
joined (x ∷ xs) ys a b = (a.0, joined xs ys a.1 b)

compared : (form : Option Form) → IfSome form IsLowestForm → AreLowestForms (comparison_forms form)
compared None low = tt
compared (Some a) low = by a.parts
  where
    by : (ps : List Part) → AreLowestForms (changing_form a ps)
    by [] = tt
    by (p ∷ ps) = (low, tt)

one_form : (form : Option Form) → IfSome form IsLowestForm → AreLowestForms (some_form form)
one_form None low = tt
one_form (Some a) low = (low, tt)

module _ (numbering : Numbering) (look : Look) (sight : Sight) (shows : Shows numbering look sight) where
  abbrev objects : List (List ℕ)
  objects = kinds_of numbering.task

  abbrev tests : Cond → (Test numbering.task) → Bool
  tests c test = every_side (passes numbering.task test) c

  -- conditions

  abbrev Claim : Cond → Type 0
  Claim c = PassesAll numbering.task c → (b : List ℕ) → AreLowestForms (condition_forms objects (functions_in numbering) c b)

  abbrev Piece : Type 0
  Piece = (c : Cond) × Claim c

  abbrev conds : List Piece → List Cond
  conds ps = map (λ p. p.0) ps

  several : (ps : List Piece) → ((test : Test numbering.task) → list_all (λ part. part) (map (every_side (passes numbering.task test)) (conds ps)) ≡ true) → (b : List ℕ) → AreLowestForms (flat_map (λ part. part b) (map (condition_forms objects (functions_in numbering)) (conds ps)))
  several [] pass b = tt
  several (p ∷ ps) pass b =
      joined (condition_forms objects (functions_in numbering) p.0 b) (flat_map (λ part. part b) (map (condition_forms objects (functions_in numbering)) (conds ps)))
      (p.1 (λ test. (and_parts (tests p.0 test) (list_all (λ part. part) (map (every_side (passes numbering.task test)) (conds ps))) (pass test)).0) b)
      (several ps (λ test. (and_parts (tests p.0 test) (list_all (λ part. part) (map (every_side (passes numbering.task test)) (conds ps))) (pass test)).1) b)

  quantified : (forms : List ℕ → List Form) → ((b : List ℕ) → AreLowestForms (forms b)) → (bs : List (List ℕ)) → AreLowestForms (flat_map forms bs)
  quantified forms each [] = tt
  quantified forms each (b ∷ bs) = joined (forms b) (flat_map forms bs) (each b) (quantified forms each bs)

  Layer : Cond-F Cond → Type 0
  Layer x = ((test : Test numbering.task) → every_side_step (passes numbering.task test) (map-Cond Cond Bool (every_side (passes numbering.task test)) x) ≡ true) → (b : List ℕ) → AreLowestForms (condition_forms_step objects (functions_in numbering) (map-Cond Cond (List ℕ → List Form) (condition_forms objects (functions_in numbering)) x) b)

  level : (y : Cond-F Piece) → Layer (map-Cond Piece Cond (λ p. p.0) y)
  unfolding Layer
  level (Cond-F.Atom predicate terms) pass b = tt
  level (Cond-F.Same left right) pass b = tt
  level (Cond-F.Compare relation left right) pass b =
      let at_left = readable_from numbering.task left (λ test. (and_parts (passes numbering.task test left) (passes numbering.task test right) (pass test)).0) in
      let at_right = readable_from numbering.task right (λ test. (and_parts (passes numbering.task test left) (passes numbering.task test right) (pass test)).1) in
      compared (compared_form (functions_in numbering) left right b) (compared_form_lowest numbering look sight shows left right b at_left at_right)
  level (Cond-F.Not part) pass b = part.1 pass b
  level (Cond-F.And parts) pass b = several parts pass b
  level (Cond-F.Or parts) pass b = several parts pass b
  level (Cond-F.Imply left right) pass b =
      joined (condition_forms objects (functions_in numbering) left.0 b) (condition_forms objects (functions_in numbering) right.0 b)
      (left.1 (λ test. (and_parts (tests left.0 test) (tests right.0 test) (pass test)).0) b)
      (right.1 (λ test. (and_parts (tests left.0 test) (tests right.0 test) (pass test)).1) b)
  level (Cond-F.All variables part) pass b = quantified (condition_forms objects (functions_in numbering) part.0) (part.1 pass) (bindings objects variables b)
  level (Cond-F.Any variables part) pass b = quantified (condition_forms objects (functions_in numbering) part.0) (part.1 pass) (bindings objects variables b)

  pub condition_lowest : (c : Cond) → Claim c
  unfolding Layer
  condition_lowest = ind-Cond Claim (λ x y is pass b.
      subst (λ (f : List ℕ → List Form). AreLowestForms (f b)) (sym (fold-roll-Cond (List ℕ → List Form) (condition_forms_step objects (functions_in numbering)) x))
      (subst (λ z. Layer z) is (level y) (λ test. sym (fold-roll-Cond Bool (every_side_step (passes numbering.task test)) x) ∙ pass test) b))

  -- effects

  abbrev EffectClaim : Effect → Type 0
  EffectClaim e = ChangesPassAll numbering.task e → (b : List ℕ) → AreLowestForms (effect_forms objects (functions_in numbering) e b)

  abbrev EffectPiece : Type 0
  EffectPiece = (e : Effect) × EffectClaim e

  abbrev changed : Effect → (Test numbering.task) → Bool
  changed e test = every_change (change_passes numbering.task test) (every_side (passes numbering.task test)) e

  abbrev effects_in : List EffectPiece → List Effect
  effects_in ps = map (λ p. p.0) ps

  group : (ps : List EffectPiece) → ((test : Test numbering.task) → list_all (λ part. part) (map (every_change (change_passes numbering.task test) (every_side (passes numbering.task test))) (effects_in ps)) ≡ true) → (b : List ℕ) → AreLowestForms (flat_map (λ part. part b) (map (effect_forms objects (functions_in numbering)) (effects_in ps)))
  group [] pass b = tt
  group (p ∷ ps) pass b =
      joined (effect_forms objects (functions_in numbering) p.0 b) (flat_map (λ part. part b) (map (effect_forms objects (functions_in numbering)) (effects_in ps)))
      (p.1 (λ test. (and_parts (changed p.0 test) (list_all (λ part. part) (map (every_change (change_passes numbering.task test) (every_side (passes numbering.task test))) (effects_in ps))) (pass test)).0) b)
      (group ps (λ test. (and_parts (changed p.0 test) (list_all (λ part. part) (map (every_change (change_passes numbering.task test) (every_side (passes numbering.task test))) (effects_in ps))) (pass test)).1) b)

  EffectLayer : Effect-F Effect → Type 0
  EffectLayer x = ((test : Test numbering.task) → every_change_step (change_passes numbering.task test) (every_side (passes numbering.task test)) (map-Effect Effect Bool (every_change (change_passes numbering.task test) (every_side (passes numbering.task test))) x) ≡ true) → (b : List ℕ) → AreLowestForms (effect_forms_step objects (functions_in numbering) (map-Effect Effect (List ℕ → List Form) (effect_forms objects (functions_in numbering)) x) b)

  effect_level : (y : Effect-F EffectPiece) → EffectLayer (map-Effect EffectPiece Effect (λ p. p.0) y)
  unfolding EffectLayer
  effect_level (Effect-F.Add predicate terms) pass b = tt
  effect_level (Effect-F.Delete predicate terms) pass b = tt
  effect_level (Effect-F.Change op function terms value) pass b =
      one_form (form_of (functions_in numbering) value b) (expression_tells numbering look sight shows value (readable_from numbering.task value (value_passes numbering.task op function value pass)) b).low
  effect_level (Effect-F.Group parts) pass b = group parts pass b
  effect_level (Effect-F.Each variables part) pass b = quantified (effect_forms objects (functions_in numbering) part.0) (part.1 pass) (bindings objects variables b)
  effect_level (Effect-F.When condition part) pass b =
      joined (condition_forms objects (functions_in numbering) condition b) (effect_forms objects (functions_in numbering) part.0 b)
      (condition_lowest condition (λ test. (and_parts (tests condition test) (changed part.0 test) (pass test)).0) b)
      (part.1 (λ test. (and_parts (tests condition test) (changed part.0 test) (pass test)).1) b)

  pub effect_lowest : (e : Effect) → EffectClaim e
  unfolding EffectLayer
  effect_lowest = ind-Effect EffectClaim (λ x y is pass b.
      subst (λ (f : List ℕ → List Form). AreLowestForms (f b)) (sym (fold-roll-Effect (List ℕ → List Form) (effect_forms_step objects (functions_in numbering)) x))
      (subst (λ z. EffectLayer z) is (effect_level y) (λ test. sym (fold-roll-Effect Bool (every_change_step (change_passes numbering.task test) (every_side (passes numbering.task test))) x) ∙ pass test) b))

-- The forms of the task

with_lowest : (forms : List Form) (a : Form) → AreLowestForms forms → IsLowestForm a → AreLowestForms (with_form forms a)
with_lowest forms a all low = by (list_any (same_form a) forms)
  where
    by : (b : Bool) → AreLowestForms (if b then forms else forms ++ a ∷ [])
    by true = all
    by false = joined forms (a ∷ []) all (low, tt)

fold_lowest : (forms others : List Form) → AreLowestForms forms → AreLowestForms others → AreLowestForms (fold with_form forms others)
fold_lowest forms [] all others = all
fold_lowest forms (a ∷ as_) all others = fold_lowest (with_form forms a) as_ (with_lowest forms a all others.0) others.1

at_lowest : (forms : List Form) (n : ℕ) → AreLowestForms forms → IsProperForm (get_or forms n (constant_form (whole (pos 0))))
at_lowest [] n all = record { constant = whole-proper (pos 0); coefficients = tt }
at_lowest (a ∷ forms) zero all = record { constant = all.0.constant; coefficients = all.0.parts }
at_lowest (a ∷ forms) (suc n) all = at_lowest forms n all.1

module _ (task : TypedTask) (instances : List Instance) (resolved : IsResolvedTask task) where
  abbrev numbering_here : Numbering
  numbering_here = numbering_of task instances

  start_lowest : HasLowestValues (ground_of task instances).start
  start_lowest = All-from_recursion (λ value. IfSome value Proper) (map (λ (cell : Cell). value_at (start_of task).values cell.function cell.objects) (terms_of task instances)) (each (terms_of task instances))
    where
      each : (cells : List Cell) → AllByRecursion (λ value. IfSome value Proper) (map (λ (cell : Cell). value_at (start_of task).values cell.function cell.objects) cells)
      each [] = tt
      each (cell ∷ cells) = (start_is_lowest task resolved cell.function cell.objects, each cells)

  shows_start : Shows numbering_here (look_of (with_costs task (state_of task (ground_of task instances) (ground_of task instances).start))) (sight_of (ground_of task instances).start)
  shows_start = row_shows task instances (ground_of task instances).start (start_has_shape task instances) resolved start_lowest

  abbrev forms_part : Action → List ℕ → List Form
  forms_part action b = condition_forms (kinds_of task) (functions_in numbering_here) action.condition b ++ effect_forms (kinds_of task) (functions_in numbering_here) action.effect b

  instance_lowest : (instance : Instance) → AreLowestForms (with_action task forms_part instance)
  instance_lowest instance = by (slice_get task.actions instance.action) refl
    where
      by : (found : Option Action) → slice_get task.actions instance.action ≡ found → AreLowestForms (with_some_action forms_part instance.objects found)
      by None e = tt
      by (Some action) e =
          joined (condition_forms (kinds_of task) (functions_in numbering_here) action.condition instance.objects) (effect_forms (kinds_of task) (functions_in numbering_here) action.effect instance.objects)
          (condition_lowest numbering_here _ _ shows_start action.condition (passes_all task action.condition (condition_readable task resolved instance.action action e)) instance.objects)
          (effect_lowest numbering_here _ _ shows_start action.effect (changes_pass_all task action.effect (effect_readable task resolved instance.action action e)) instance.objects)

  all_instances : (some : List Instance) → AreLowestForms (flat_map (with_action task forms_part) some)
  all_instances [] = tt
  all_instances (instance ∷ others) = joined (with_action task forms_part instance) (flat_map (with_action task forms_part) others) (instance_lowest instance) (all_instances others)

  pub forms_are_proper : HasProperForms (ground_of task instances)
  forms_are_proper = record {
    forms = λ number. at_lowest (forms_of task instances (functions_of task (terms_of task instances))) number
        (fold_lowest [] (condition_forms (kinds_of task) (functions_in numbering_here) task.goal [] ++ flat_map (with_action task forms_part) instances) tt
        (joined (condition_forms (kinds_of task) (functions_in numbering_here) task.goal []) (flat_map (with_action task forms_part) instances) (condition_lowest numbering_here _ _ shows_start task.goal (passes_all task task.goal (goal_readable task resolved)) []) (all_instances instances)));
  }
