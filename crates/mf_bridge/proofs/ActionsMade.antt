-- The actions of a packed task are made of instances, and the forms that occur in them and in the goal are listed.
use Rattle.std.proofs.Common.{◌≡◌, ℕ, true, List, [], ◌∷◌, ◌++◌, map, Option, Some, None, refl, sym, subst, ap}
use Rattle.std.specs.Prelude.{pos, slice_get, Contains, is_some}
use Rattle.std.specs.List.{AllByRecursion, flat_map, filter}
use Rattle.std.proofs.lemmas.List.Elements.{All-contains, All-contains_itself, All-from_recursion, filter_passes, recursion_from_All}
use Rattle.mf_model.specs.declared.task.Action.{Action}
use Rattle.mf_model.specs.declared.task.TypedTask.{TypedTask}
use Rattle.mf_model.specs.declared.state.Instance.{Instance}
use Rattle.mf_model.specs.Application.{instances_of}
use Rattle.mf_model.specs.LiveInstances.{live_instances}
use Rattle.mf_model.specs.Objects.{kinds_of}
use Rattle.mf_meaning.specs.LiveTests.{are_live_arguments, is_live}
use Rattle.mf_meaning.proofs.LiveInstances.{live_are_filtered}
use Rattle.mf_task.specs.declared.form.Form.{Form}
use Rattle.mf_task.specs.declared.ground.GroundAction.{GroundAction}
use Rattle.mf_task.specs.LinearForms.{constant_form}
use Rattle.mf_task.specs.GroundMeaning.{form_at}
use Rattle.mf_fraction.specs.Exact.{whole}
use Rattle.mf_task.specs.Grounding.{condition_forms, effect_forms, form_number, functions_in, ground_action, ground_cond, ground_effects, ground_of, numbering_of, with_action, with_some_action}
use Rattle.mf_bridge.specs.ListedForms.{AreListed, IsListed}
use Rattle.mf_bridge.proofs.ListedForms.{fold_lists, listed_number}
use Rattle.mf_bridge.proofs.Lists.{all_append, all_back, all_front, all_joined}

-- what is true of all that is made of the instances is true of what is made of one of them
pub of_instance : {Y : Type 0} (P : Y → Type 0) (task : TypedTask) (part : Action → List ℕ → List Y) (instances : List Instance) (instance : Instance) (action : Action) →
    AllByRecursion P (flat_map (with_action task part) instances) → Contains instances instance → slice_get task.actions instance.action ≡ Some action → AllByRecursion P (part action instance.objects)
of_instance P task part instances instance action all contained found =
    let one = All-contains (λ x. AllByRecursion P (with_action task part x)) instances instance (All-from_recursion (λ x. AllByRecursion P (with_action task part x)) instances (all_joined P (with_action task part) instances all)) contained in
    subst (λ (a : Option Action). AllByRecursion P (with_some_action part instance.objects a)) found one

module _ (task : TypedTask) (instances : List Instance) where
  abbrev goal_forms : List Form
  goal_forms = condition_forms (kinds_of task) (functions_in (numbering_of task instances)) task.goal []

  abbrev forms_part : Action → List ℕ → List Form
  forms_part action b =
      condition_forms (kinds_of task) (functions_in (numbering_of task instances)) action.condition b ++ effect_forms (kinds_of task) (functions_in (numbering_of task instances)) action.effect b

  all_forms : AreListed (numbering_of task instances).forms (goal_forms ++ flat_map (with_action task forms_part) instances)
  all_forms = fold_lists [] (goal_forms ++ flat_map (with_action task forms_part) instances)

  pub goal_listed : AreListed (numbering_of task instances).forms (condition_forms (kinds_of task) (functions_in (numbering_of task instances)) task.goal [])
  goal_listed = all_front (IsListed (numbering_of task instances).forms) goal_forms (flat_map (with_action task forms_part) instances) all_forms

  -- a packed action, with the typed one that it is made of
  pub record IsMade (made : GroundAction) : Type 0 where
    pub action : Action
    pub found : slice_get task.actions made.instance.action ≡ Some action
    pub contained : Contains instances made.instance
    pub condition : made.condition ≡ ground_cond (numbering_of task instances) action.condition made.instance.objects
    pub effects : made.effects ≡ ground_effects (numbering_of task instances) action.effect made.instance.objects

  one_made : (instance : Instance) → Contains instances instance → (found : Option Action) → slice_get task.actions instance.action ≡ found →
      AllByRecursion IsMade (with_some_action (λ action b. record { instance = instance; condition = ground_cond (numbering_of task instances) action.condition b; effects = ground_effects (numbering_of task instances) action.effect b } ∷ []) instance.objects found)
  one_made instance contained (Some action) found = (record { action = action; found = found; contained = contained; condition = refl; effects = refl }, tt)
  one_made instance contained None found = tt

  all_made : (xs : List Instance) → AllByRecursion (Contains instances) xs → AllByRecursion IsMade (flat_map (ground_action (numbering_of task instances)) xs)
  all_made [] contained = tt
  all_made (x ∷ xs) contained =
      all_append IsMade (ground_action (numbering_of task instances) x) (flat_map (ground_action (numbering_of task instances)) xs)
      (one_made x contained.0 (slice_get task.actions x.action) refl) (all_made xs contained.1)

  pub is_made : (made : GroundAction) → Contains (ground_of task instances).actions made → IsMade made
  is_made made contained =
      All-contains IsMade (ground_of task instances).actions made (All-from_recursion IsMade (ground_of task instances).actions (all_made instances (recursion_from_All (Contains instances) instances (All-contains_itself instances)))) contained

  forms_listed : (instance : Instance) (action : Action) → Contains instances instance → slice_get task.actions instance.action ≡ Some action → AreListed (numbering_of task instances).forms (forms_part action instance.objects)
  forms_listed instance action contained found =
      of_instance (IsListed (numbering_of task instances).forms) task forms_part instances instance action
      (all_back (IsListed (numbering_of task instances).forms) goal_forms (flat_map (with_action task forms_part) instances) all_forms) contained found

  pub condition_listed : (instance : Instance) (action : Action) → Contains instances instance → slice_get task.actions instance.action ≡ Some action →
      AreListed (numbering_of task instances).forms (condition_forms (kinds_of task) (functions_in (numbering_of task instances)) action.condition instance.objects)
  condition_listed instance action contained found =
      all_front (IsListed (numbering_of task instances).forms) _ (effect_forms (kinds_of task) (functions_in (numbering_of task instances)) action.effect instance.objects) (forms_listed instance action contained found)

  pub effect_listed : (instance : Instance) (action : Action) → Contains instances instance → slice_get task.actions instance.action ≡ Some action →
      AreListed (numbering_of task instances).forms (effect_forms (kinds_of task) (functions_in (numbering_of task instances)) action.effect instance.objects)
  effect_listed instance action contained found =
      all_back (IsListed (numbering_of task instances).forms) (condition_forms (kinds_of task) (functions_in (numbering_of task instances)) action.condition instance.objects) _ (forms_listed instance action contained found)

  -- an action for each instance, in their order

  instances_made : (xs : List Instance) → AllByRecursion (λ x. is_some (slice_get task.actions x.action) ≡ true) xs → map (λ made. made.instance) (flat_map (ground_action (numbering_of task instances)) xs) ≡ xs
  instances_made [] there = refl
  instances_made (x ∷ xs) there = by (slice_get task.actions x.action) refl there.0 (instances_made xs there.1)
    where
      by : (found : Option Action) → slice_get task.actions x.action ≡ found → is_some found ≡ true → (map (λ made. made.instance) (flat_map (ground_action (numbering_of task instances)) xs) ≡ xs) →
          map (λ made. made.instance) (with_some_action (λ action b. record { instance = x; condition = ground_cond (numbering_of task instances) action.condition b; effects = ground_effects (numbering_of task instances) action.effect b } ∷ []) x.objects found ++ flat_map (ground_action (numbering_of task instances)) xs) ≡ x ∷ xs
      by (Some action) found some rest = ap (λ ys. x ∷ ys) rest
      by None found some rest = cc

  pub actions_of_instances : AllByRecursion (λ x. is_some (slice_get task.actions x.action) ≡ true) instances → map (λ made. made.instance) (ground_of task instances).actions ≡ instances
  actions_of_instances there = instances_made instances there

  pub form_of_number : (form : Form) → IsListed (ground_of task instances).forms form → form_at (ground_of task instances) (form_number (ground_of task instances).forms form) ≡ form
  form_of_number form listed = listed_number (ground_of task instances).forms form (constant_form (whole (pos 0))) listed

-- live instances have actions

module _ (task : TypedTask) where
  with_arguments : (objects : List ℕ) (found : Option Action) → are_live_arguments task objects found ≡ true → is_some found ≡ true
  with_arguments objects (Some action) live = refl
  with_arguments objects None live = cc

  have_actions : (xs : List Instance) → AllByRecursion (λ x. is_live task x ≡ true) xs → AllByRecursion (λ x. is_some (slice_get task.actions x.action) ≡ true) xs
  have_actions [] live = tt
  have_actions (x ∷ xs) live = (with_arguments x.objects (slice_get task.actions x.action) live.0, have_actions xs live.1)

  pub live_actions : map (λ made. made.instance) (ground_of task (live_instances task)).actions ≡ live_instances task
  live_actions =
      let passing = recursion_from_All (λ x. is_live task x ≡ true) (filter (is_live task) (instances_of task)) (filter_passes (is_live task) (instances_of task)) in
      actions_of_instances task (live_instances task) (have_actions (live_instances task) (subst (AllByRecursion (λ x. is_live task x ≡ true)) (sym (live_are_filtered task)) passing))
