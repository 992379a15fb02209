-- The ground changes that fire do, in their order, what the typed ones do.
use Rattle.std.proofs.Common.{◌≡◌, ℕ, Bool, true, false, ◌&&◌, cond, List, [], ◌∷◌, ◌++◌, map, Option, Some, None, refl, sym, subst, ap, ap₂, ◌∙◌}
use Rattle.std.specs.Prelude.{if◌then◌else◌}
use Rattle.std.specs.List.{filter, flat_map, list_all}
use Rattle.std.proofs.lemmas.Bool.{and_parts}
use Rattle.std.proofs.lemmas.List.{append-nil, map-append}
use Rattle.std.proofs.lemmas.List.Concat.{flat_map-append}
use Rattle.mf_fraction.specs.Exact.{Number}
use Rattle.mf_model.specs.declared.task.Op.{Op}
use Rattle.mf_model.specs.declared.task.Op.TheVariants.{Assign, Increase, Decrease, ScaleUp, ScaleDown}
use Rattle.mf_model.specs.declared.task.Expr.{Expr}
use Rattle.mf_model.specs.declared.task.Effect.{Effect}
use Rattle.mf_model.specs.declared.task.Effect.TheOpen.{Effect-F}
use Rattle.mf_model.specs.declared.task.Effect.TheFolds.{ind-Effect, fold-roll-Effect, map-Effect}
use Rattle.mf_model.specs.declared.task.TypedTask.{TypedTask}
use Rattle.mf_model.specs.Application.{Change, Changed, firing_of, firing_step}
use Rattle.mf_model.specs.Expressions.{every_change, every_change_step, every_side}
use Rattle.mf_model.specs.Functions.{avoids, is_constant, is_cost}
use Rattle.mf_model.specs.Linearity.{degree_of, is_linear, is_linear_change}
use Rattle.mf_model.specs.Meaning.{holds_in, is_yes, value_of}
use Rattle.mf_model.specs.Objects.{bindings, kinds_of}
use Rattle.mf_model.specs.ResolvedTask.{has_stored_numbers}
use Rattle.mf_model.specs.Views.{Look, objects_of}
use Rattle.mf_task.specs.declared.form.Form.{Form}
use Rattle.mf_task.specs.declared.ground.GroundCond.{GroundCond}
use Rattle.mf_task.specs.declared.ground.GroundChange.{GroundChange}
use Rattle.mf_task.specs.declared.ground.GroundChange.TheVariants as change
use Rattle.mf_task.specs.declared.ground.GroundEffect.{GroundEffect}
use Rattle.mf_task.specs.declared.task.Task.{Task}
use Rattle.mf_task.specs.GroundMeaning.{ground_firing, ground_holds, right_side}
use Rattle.mf_task.specs.Grounding.{Numbering, atom_number, condition_forms, effect_forms, effect_forms_step, functions_in, ground_cond, ground_effect_step, ground_effects, ground_number_change, guarded, optional_form_number, or_nothing, some_form, term_number, unguarded}
use Rattle.mf_task.specs.LinearForms.{form_of, optional_form_value}
use Rattle.mf_task.specs.Rows.{Sight}
use Rattle.mf_bridge.specs.Deeds.{Deed, ChangesCost, ChangesTerm, deed_of, ground_deeds}
use Rattle.mf_bridge.specs.ListedForms.{AreListed, IsListed}
use Rattle.mf_bridge.specs.Readable.{IsReadableEffect}
use Rattle.mf_bridge.specs.Shows.{Shows}
use Rattle.mf_bridge.specs.UnlistedAtoms.{HidesUnlistedAtoms}
use Rattle.mf_bridge.proofs.Expressions.{value_is_form_value}
use Rattle.mf_bridge.proofs.FormLaws.{constant_within}
use Rattle.mf_bridge.proofs.GroundConditions.{Test, Linear, Numbers, Costless, form_there, passes, readable_from, truth_is_ground_truth}
use Rattle.mf_bridge.proofs.GroundTruth.{of_both, of_fact}
use Rattle.mf_bridge.proofs.Lists.{all_back, all_front}

-- the tests of changes

pub change_passes : (task : TypedTask) → Test task → Op → ℕ → Expr → Bool
change_passes task Linear op changed value = is_linear_change (is_constant task) op changed value
change_passes task Numbers op changed value = has_stored_numbers value
change_passes task (Costless function cost) op changed value = avoids function value

abbrev pub ChangesPassAll : TypedTask → Effect → Type 0
ChangesPassAll task e = (test : Test task) → every_change (change_passes task test) (every_side (passes task test)) e ≡ true

pub changes_pass_all : (task : TypedTask) (e : Effect) → IsReadableEffect task e → ChangesPassAll task e
unfolding passes change_passes
changes_pass_all task e r Linear = r.linear
changes_pass_all task e r Numbers = r.numbers
changes_pass_all task e r (Costless function cost) = r.costless function cost

linear_from_change : (constant : ℕ → Bool) (op : Op) (changed : ℕ) (value : Expr) → is_linear_change constant op changed value ≡ true → is_linear constant value ≡ true
linear_from_change constant Assign changed value e = e
linear_from_change constant Increase changed value e = e
linear_from_change constant Decrease changed value e = e
linear_from_change constant ScaleUp changed value e = constant_within (degree_of constant value) e
linear_from_change constant ScaleDown changed value e = constant_within (degree_of constant value) e

pub value_passes : (task : TypedTask) (op : Op) (changed : ℕ) (value : Expr) → ((test : Test task) → change_passes task test op changed value ≡ true) → (test : Test task) → passes task test value ≡ true
unfolding passes change_passes
value_passes task op changed value pass Linear = linear_from_change (is_constant task) op changed value (pass Linear)
value_passes task op changed value pass Numbers = pass Numbers
value_passes task op changed value pass (Costless function cost) = pass (Costless function cost)

-- what ground effects do

module _ (packed : Task) (sight : Sight) where
  abbrev pub one_deed : GroundEffect → List Deed
  one_deed effect = if ground_holds packed sight effect.condition then ground_deeds packed sight effect.change else []

  abbrev pub deeds : List GroundEffect → List Deed
  deeds effects = flat_map one_deed effects

  pub deeds-firing : (effects : List GroundEffect) → flat_map (ground_deeds packed sight) (ground_firing packed sight effects) ≡ deeds effects
  deeds-firing [] = refl
  deeds-firing (effect ∷ effects) = by (deeds-firing effects) (ground_holds packed sight effect.condition)
    where
      by : (flat_map (ground_deeds packed sight) (ground_firing packed sight effects) ≡ deeds effects) → (holds : Bool) →
          flat_map (ground_deeds packed sight) (map (λ e. e.change) (cond holds (effect ∷ filter (λ e. ground_holds packed sight e.condition) effects) (filter (λ e. ground_holds packed sight e.condition) effects)))
          ≡ (if holds then ground_deeds packed sight effect.change else []) ++ deeds effects
      by rest true = ap (λ ds. ground_deeds packed sight effect.change ++ ds) rest
      by rest false = rest

  deeds-unguarded : (made : GroundChange) → deeds (unguarded made ∷ []) ≡ ground_deeds packed sight made
  deeds-unguarded made =
      append-nil (one_deed (unguarded made)) ∙ ap (λ t. if is_yes t then ground_deeds packed sight made else []) (of_fact packed sight true)

  deeds-or_nothing : (effects : List GroundEffect) → deeds (or_nothing effects) ≡ deeds effects
  deeds-or_nothing [] = deeds-unguarded change.Nothing
  deeds-or_nothing (effect ∷ effects) = refl

  deeds-guarded : (g : GroundCond) (holds : Bool) → ground_holds packed sight g ≡ holds → (effects : List GroundEffect) → deeds (map (guarded g) effects) ≡ (if holds then deeds effects else [])
  deeds-guarded g true e [] = refl
  deeds-guarded g false e [] = refl
  deeds-guarded g true e (effect ∷ effects) =
      ap₂ (λ (b : Bool) ds. (if b then ground_deeds packed sight effect.change else []) ++ ds) (of_both packed sight g effect.condition ∙ ap (λ b. b && ground_holds packed sight effect.condition) e) (deeds-guarded g true e effects)
  deeds-guarded g false e (effect ∷ effects) =
      ap₂ (λ (b : Bool) ds. (if b then ground_deeds packed sight effect.change else []) ++ ds) (of_both packed sight g effect.condition ∙ ap (λ b. b && ground_holds packed sight effect.condition) e) (deeds-guarded g false e effects)

module _ (numbering : Numbering) (packed : Task) (look : Look) (sight : Sight) (shows : Shows numbering look sight) (hides : HidesUnlistedAtoms numbering sight) (same : packed.forms ≡ numbering.forms) where
  abbrev objects : List (List ℕ)
  objects = kinds_of numbering.task

  abbrev Claim : Effect → Type 0
  Claim e = ChangesPassAll numbering.task e → (b : List ℕ) → AreListed numbering.forms (effect_forms objects (functions_in numbering) e b) → map (deed_of numbering) (firing_of objects look e b) ≡ deeds packed sight (ground_effects numbering e b)

  abbrev Piece : Type 0
  Piece = (e : Effect) × Claim e

  abbrev effects_in : List Piece → List Effect
  effects_in ps = map (λ p. p.0) ps

  -- right sides

  sides : (form : Option Form) → AreListed numbering.forms (some_form form) → optional_form_value sight.value form ≡ right_side packed sight (optional_form_number numbering.forms form)
  sides (Some a) listed = ap (λ f. optional_form_value sight.value (Some f)) (sym (form_there numbering packed look sight shows hides same a listed.0))
  sides None listed = refl

  changed : (op : Op) (function : ℕ) (os : List ℕ) (value : Option Number) (n : Option ℕ) → value ≡ right_side packed sight n → deed_of numbering (Changed op function os value) ∷ [] ≡ deeds packed sight (unguarded (ground_number_change numbering op function os n) ∷ [])
  changed op function os value n e = by (is_cost numbering.task function) ∙ sym (deeds-unguarded packed sight (ground_number_change numbering op function os n))
    where
      by : (cost : Bool) → (if cost then ChangesCost value else ChangesTerm op (term_number numbering.terms function os) value) ∷ [] ≡ ground_deeds packed sight (if cost then change.Cost n else change.Number op (term_number numbering.terms function os) n)
      by true = ap (λ v. ChangesCost v ∷ []) e
      by false = ap (λ v. ChangesTerm op (term_number numbering.terms function os) v ∷ []) e

  -- lists

  group : (ps : List Piece) → ((test : Test numbering.task) → list_all (λ part. part) (map (every_change (change_passes numbering.task test) (every_side (passes numbering.task test))) (effects_in ps)) ≡ true) → (b : List ℕ) → AreListed numbering.forms (flat_map (λ part. part b) (map (effect_forms objects (functions_in numbering)) (effects_in ps))) →
      map (deed_of numbering) (flat_map (λ part. part b) (map (firing_of objects look) (effects_in ps))) ≡ deeds packed sight (flat_map (λ part. part b) (map (ground_effects numbering) (effects_in ps)))
  group [] pass b listed = refl
  group (p ∷ ps) pass b listed =
      let here = effect_forms objects (functions_in numbering) p.0 b in
      let others = flat_map (λ part. part b) (map (effect_forms objects (functions_in numbering)) (effects_in ps)) in
      let first = p.1 (λ test. (and_parts (every_change (change_passes numbering.task test) (every_side (passes numbering.task test)) p.0) (list_all (λ part. part) (map (every_change (change_passes numbering.task test) (every_side (passes numbering.task test))) (effects_in ps))) (pass test)).0) b (all_front (IsListed numbering.forms) here others listed) in
      let rest = group ps (λ test. (and_parts (every_change (change_passes numbering.task test) (every_side (passes numbering.task test)) p.0) (list_all (λ part. part) (map (every_change (change_passes numbering.task test) (every_side (passes numbering.task test))) (effects_in ps))) (pass test)).1) b (all_back (IsListed numbering.forms) here others listed) in
      map-append (deed_of numbering) (firing_of objects look p.0 b) (flat_map (λ part. part b) (map (firing_of objects look) (effects_in ps)))
      ∙ ap₂ (λ xs ys. xs ++ ys) first rest
      ∙ sym (flat_map-append (one_deed packed sight) (ground_effects numbering p.0 b) (flat_map (λ part. part b) (map (ground_effects numbering) (effects_in ps))))

  each : (p : Piece) → ChangesPassAll numbering.task p.0 → (bs : List (List ℕ)) → AreListed numbering.forms (flat_map (effect_forms objects (functions_in numbering) p.0) bs) →
      map (deed_of numbering) (flat_map (firing_of objects look p.0) bs) ≡ deeds packed sight (flat_map (ground_effects numbering p.0) bs)
  each p pass [] listed = refl
  each p pass (b ∷ bs) listed =
      let here = effect_forms objects (functions_in numbering) p.0 b in
      let others = flat_map (effect_forms objects (functions_in numbering) p.0) bs in
      let first = p.1 pass b (all_front (IsListed numbering.forms) here others listed) in
      let rest = each p pass bs (all_back (IsListed numbering.forms) here others listed) in
      map-append (deed_of numbering) (firing_of objects look p.0 b) (flat_map (firing_of objects look p.0) bs)
      ∙ ap₂ (λ xs ys. xs ++ ys) first rest
      ∙ sym (flat_map-append (one_deed packed sight) (ground_effects numbering p.0 b) (flat_map (ground_effects numbering p.0) bs))

  when : (holds : Bool) (changes : List Change) (ds : List Deed) → map (deed_of numbering) changes ≡ ds → map (deed_of numbering) (if holds then changes else []) ≡ (if holds then ds else [])
  when true changes ds e = e
  when false changes ds e = refl

  Layer : Effect-F Effect → Type 0
  Layer x = ((test : Test numbering.task) → every_change_step (change_passes numbering.task test) (every_side (passes numbering.task test)) (map-Effect Effect Bool (every_change (change_passes numbering.task test) (every_side (passes numbering.task test))) x) ≡ true) → (b : List ℕ) → AreListed numbering.forms (effect_forms_step objects (functions_in numbering) (map-Effect Effect (List ℕ → List Form) (effect_forms objects (functions_in numbering)) x) b) →
      map (deed_of numbering) (firing_step objects look (map-Effect Effect (List ℕ → List Change) (firing_of objects look) x) b) ≡ deeds packed sight (ground_effect_step numbering (map-Effect Effect (List ℕ → List GroundEffect) (ground_effects numbering) x) b)

  level : (y : Effect-F Piece) → Layer (map-Effect Piece Effect (λ p. p.0) y)
  unfolding Layer
  level (Effect-F.Add predicate terms) pass b listed = sym (deeds-unguarded packed sight (change.Add (atom_number numbering.atoms predicate (objects_of b terms))))
  level (Effect-F.Delete predicate terms) pass b listed = sym (deeds-unguarded packed sight (change.Delete (atom_number numbering.atoms predicate (objects_of b terms))))
  level (Effect-F.Change op function terms value) pass b listed =
      let readable = readable_from numbering.task value (value_passes numbering.task op function value pass) in
      changed op function (objects_of b terms) (value_of look value b) (optional_form_number numbering.forms (form_of (functions_in numbering) value b))
      (value_is_form_value numbering look sight shows value b readable ∙ sides (form_of (functions_in numbering) value b) listed)
  level (Effect-F.Group parts) pass b listed = group parts pass b listed
  level (Effect-F.Each variables part) pass b listed = each part pass (bindings objects variables b) listed
  level (Effect-F.When condition part) pass b listed =
      let own = condition_forms objects (functions_in numbering) condition b in
      let others = effect_forms objects (functions_in numbering) part.0 b in
      let met = truth_is_ground_truth numbering packed look sight shows hides same condition (λ test. (and_parts (every_side (passes numbering.task test) condition) (every_change (change_passes numbering.task test) (every_side (passes numbering.task test)) part.0) (pass test)).0) b (all_front (IsListed numbering.forms) own others listed) in
      let inner = part.1 (λ test. (and_parts (every_side (passes numbering.task test) condition) (every_change (change_passes numbering.task test) (every_side (passes numbering.task test)) part.0) (pass test)).1) b (all_back (IsListed numbering.forms) own others listed) in
      when (holds_in objects look condition b) (firing_of objects look part.0 b) (deeds packed sight (ground_effects numbering part.0 b)) inner
      ∙ ap (λ t. if is_yes t then deeds packed sight (ground_effects numbering part.0 b) else []) met
      ∙ ap (λ ds. if ground_holds packed sight (ground_cond numbering condition b) then ds else []) (sym (deeds-or_nothing packed sight (ground_effects numbering part.0 b)))
      ∙ sym (deeds-guarded packed sight (ground_cond numbering condition b) (ground_holds packed sight (ground_cond numbering condition b)) refl (or_nothing (ground_effects numbering part.0 b)))

  all_deeds : (e : Effect) → Claim e
  unfolding Layer
  all_deeds = ind-Effect Claim (λ x y is pass b listed.
      let listings = ap (λ (f : List ℕ → List Form). f b) (fold-roll-Effect (List ℕ → List Form) (effect_forms_step objects (functions_in numbering)) x) in
      let at_layer = subst (λ z. Layer z) is (level y) (λ test. sym (fold-roll-Effect Bool (every_change_step (change_passes numbering.task test) (every_side (passes numbering.task test))) x) ∙ pass test) b (subst (AreListed numbering.forms) listings listed) in
      ap (λ (f : List ℕ → List Change). map (deed_of numbering) (f b)) (fold-roll-Effect (List ℕ → List Change) (firing_step objects look) x)
      ∙ at_layer
      ∙ sym (ap (λ (f : List ℕ → List GroundEffect). deeds packed sight (f b)) (fold-roll-Effect (List ℕ → List GroundEffect) (ground_effect_step numbering) x)))

  pub fired_deeds : (e : Effect) → IsReadableEffect numbering.task e → (b : List ℕ) → AreListed numbering.forms (effect_forms objects (functions_in numbering) e b) →
      map (deed_of numbering) (firing_of objects look e b) ≡ flat_map (ground_deeds packed sight) (ground_firing packed sight (ground_effects numbering e b))
  fired_deeds e readable b listed = all_deeds e (changes_pass_all numbering.task e readable) b listed ∙ sym (deeds-firing packed sight (ground_effects numbering e b))
