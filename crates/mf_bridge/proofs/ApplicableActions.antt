-- An action of the packed task is applicable in a row exactly where its instance is in a state that shows the same.
use Rattle.std.proofs.Common.{◌≡◌, ℕ, Bool, true, false, not, ◌&&◌, ◌||◌, nat_eq, List, [], ◌∷◌, map, Some, None, refl, sym, subst, ap, ap₂, ◌∙◌}
use Rattle.std.specs.Prelude.{slice_get, Contains}
use Rattle.std.specs.List.{AllByRecursion, list_all}
use Rattle.std.proofs.lemmas.Bool.{and_parts, eq-eqb, false≢true}
use Rattle.mf_model.specs.declared.task.Action.{Action}
use Rattle.mf_model.specs.declared.task.TypedTask.{TypedTask}
use Rattle.mf_model.specs.declared.state.PlainState.{PlainState}
use Rattle.mf_model.specs.declared.task.Op.{Op}
use Rattle.mf_model.specs.Application.{Change, Added, Deleted, Changed, action_changes, changes_of, firing_of, is_applicable, is_sum, precondition_holds}
use Rattle.mf_model.specs.Functions.{is_constant, is_cost}
use Rattle.mf_model.specs.LiveInstances.{live_instances}
use Rattle.mf_model.specs.Meaning.{is_yes}
use Rattle.mf_model.specs.Objects.{kinds_of}
use Rattle.mf_model.specs.ResolvedTask.{IsResolvedTask}
use Rattle.mf_model.specs.SearchStates.{HasStartCosts}
use Rattle.mf_model.specs.States.{look_of}
use Rattle.mf_meaning.proofs.ActionsOf.{instance_leaves_function, instance_sums}
use Rattle.mf_meaning.proofs.FiredChanges.{leaves_function, sums}
use Rattle.mf_meaning.proofs.LiveInstances.{live_is_own}
use Rattle.mf_task.specs.declared.ground.GroundAction.{GroundAction}
use Rattle.mf_task.specs.GroundMeaning.{action_firing, ground_holds, is_ground_applicable}
use Rattle.mf_task.specs.Grounding.{cell_of, ground_of, numbering_of}
use Rattle.mf_task.specs.Rows.{Sight}
use Rattle.mf_bridge.specs.Deeds.{deed_of}
use Rattle.mf_bridge.specs.Shows.{Shows}
use Rattle.mf_bridge.specs.UnlistedAtoms.{HidesUnlistedAtoms}
use Rattle.mf_bridge.proofs.ActionsMade.{is_made}
use Rattle.mf_bridge.proofs.ConditionLaws.{precondition_alike}
use Rattle.mf_bridge.proofs.CostTerms.{FitsCost, cost_started, instance_costs}
use Rattle.mf_bridge.proofs.DeedTests.{IsNumbered, IsNumberedChange, apart_alike, defined_alike}
use Rattle.mf_bridge.proofs.EffectLaws.{action_alike}
use Rattle.mf_bridge.proofs.ListedTerms.{ChangesA, IsRowTerm, effect_terms, fired_cells}

-- what a function's own changes say
own_sum : (f : ℕ) (b : Bool) → (not (nat_eq f f) || b) ≡ true → b ≡ true
own_sum f b e = sym (ap (λ (x : Bool). not x || b) (eq-eqb f f refl)) ∙ e

own_left : (f : ℕ) → not (nat_eq f f) ≡ true → ⊥
own_left f e = false≢true (sym (ap not (eq-eqb f f refl)) ∙ e)

module _ (task : TypedTask) (state : PlainState) (sight : Sight) (resolved : IsResolvedTask task) (shows : Shows (numbering_of task (live_instances task)) (look_of state) sight) (hides : HidesUnlistedAtoms (numbering_of task (live_instances task)) sight) (costs : HasStartCosts task state) where
  abbrev Sums : List Change → Type 0
  Sums cs = (f : ℕ) → is_cost task f ≡ true → list_all (sums f) cs ≡ true

  abbrev Leaves : List Change → Type 0
  Leaves cs = (f : ℕ) → is_constant task f ≡ true → list_all (leaves_function f) cs ≡ true

  one_numbered : (op : Op) (f : ℕ) (os : List ℕ) → (is_cost task f ≡ true → (not (nat_eq f f) || is_sum op) ≡ true) → (is_constant task f ≡ true → not (nat_eq f f) ≡ true) →
      IsRowTerm task (live_instances task) (cell_of f os) → FitsCost task resolved (Changed op f os None) → IsNumbered (numbering_of task (live_instances task)) (look_of state) sight op f os
  one_numbered op f os summed left listed fits = record {
    cost = λ cost. (own_sum f (is_sum op) (summed cost), costs f os cost ∙ cost_started task resolved f os cost (fits cost));
    value = λ other. shows.changing f os changing other;
    term = λ other. listed (ap₂ (λ (a b : Bool). not (a || b)) changing other);
  }
    where
      changing : is_constant task f ≡ false
      changing = by (is_constant task f) refl
        where
          by : (b : Bool) → is_constant task f ≡ b → b ≡ false
          by true e = absurd (own_left f (left e))
          by false e = refl

  all_numbered : (cs : List Change) → Sums cs → Leaves cs → AllByRecursion (ChangesA (kinds_of task) (look_of state) (IsRowTerm task (live_instances task))) cs → AllByRecursion (FitsCost task resolved) cs → AllByRecursion (IsNumberedChange (numbering_of task (live_instances task)) (look_of state) sight) cs
  all_numbered [] summed left listed fits = tt
  all_numbered (Added predicate os ∷ cs) summed left listed fits = (tt, all_numbered cs summed left listed.1 fits.1)
  all_numbered (Deleted predicate os ∷ cs) summed left listed fits =
      (tt, all_numbered cs summed (λ f e. (and_parts (leaves_function f (Deleted predicate os)) (list_all (leaves_function f) cs) (left f e)).1) listed.1 fits.1)
  all_numbered (Changed op f os value ∷ cs) summed left listed fits = (
    one_numbered op f os (λ e. (and_parts (sums f (Changed op f os value)) (list_all (sums f) cs) (summed f e)).0) (λ e. (and_parts (leaves_function f (Changed op f os value)) (list_all (leaves_function f) cs) (left f e)).0) listed.0 fits.0,
    all_numbered cs (λ g e. (and_parts (sums g (Changed op f os value)) (list_all (sums g) cs) (summed g e)).1) (λ g e. (and_parts (leaves_function g (Changed op f os value)) (list_all (leaves_function g) cs) (left g e)).1) listed.1 fits.1,
  )

  applicable_made : (made : GroundAction) (action : Action) → Contains (ground_of task (live_instances task)).actions made → Contains (live_instances task) made.instance → slice_get task.actions made.instance.action ≡ Some action → is_applicable task state made.instance ≡ is_ground_applicable (ground_of task (live_instances task)) sight made
  applicable_made made action contained live found =
      let fires : changes_of task state made.instance ≡ firing_of (kinds_of task) (look_of state) action.effect made.instance.objects = ap (action_changes task state made.instance.objects) found in
      let cells = fired_cells (kinds_of task) (look_of state) (IsRowTerm task (live_instances task)) action.effect made.instance.objects (effect_terms task (live_instances task) made.instance action live found) in
      let fit = instance_costs task resolved (look_of state) made.instance action (live_is_own task made.instance live) found in
      let numbered = all_numbered (changes_of task state made.instance) (λ f cost. instance_sums task state made.instance f cost) (λ f constant. instance_leaves_function task state made.instance f constant)
      (subst (AllByRecursion (ChangesA (kinds_of task) (look_of state) (IsRowTerm task (live_instances task)))) (sym fires) cells)
      (subst (AllByRecursion (FitsCost task resolved)) (sym fires) fit) in
      let same = ap (map (deed_of (numbering_of task (live_instances task)))) fires ∙ action_alike task (live_instances task) (look_of state) sight resolved shows hides made action contained found in
      let holds : precondition_holds task state made.instance.objects (slice_get task.actions made.instance.action) ≡ ground_holds (ground_of task (live_instances task)) sight made.condition =
      ap (precondition_holds task state made.instance.objects) found ∙ ap is_yes (precondition_alike task (live_instances task) (look_of state) sight resolved shows hides made action contained found) in
      let defined = defined_alike (numbering_of task (live_instances task)) (look_of state) sight (ground_of task (live_instances task)) (changes_of task state made.instance) (action_firing (ground_of task (live_instances task)) sight made) numbered same in
      let apart = apart_alike (numbering_of task (live_instances task)) (look_of state) sight (ground_of task (live_instances task)) (changes_of task state made.instance) (action_firing (ground_of task (live_instances task)) sight made) numbered same in
      ap₂ (λ (a b : Bool). a && b) (ap₂ (λ (a b : Bool). a && b) holds defined) apart

  pub applicable_alike : (made : GroundAction) → Contains (ground_of task (live_instances task)).actions made → is_applicable task state made.instance ≡ is_ground_applicable (ground_of task (live_instances task)) sight made
  applicable_alike made contained =
      let is = is_made task (live_instances task) made contained in
      applicable_made made is.action contained is.contained is.found
