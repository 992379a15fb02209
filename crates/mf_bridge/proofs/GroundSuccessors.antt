-- The successor list of a row's state is the one that is made of the packed task alone.
use Rattle.std.proofs.Common.{◌≡◌, ℕ, ◌+◌, Bool, true, false, cond, List, [], ◌∷◌, map, Option, Some, None, refl, sym, ap, ap₂, ◌∙◌, arith}
use Rattle.std.specs.Prelude.{length, is_some, Contains}
use Rattle.std.specs.List.{AllByRecursion}
use Rattle.std.proofs.lemmas.List.Elements.{All-contains_itself, recursion_from_All}
use Rattle.mf_store.specs.Rows.{RowLists}
use Rattle.mf_model.specs.declared.state.Instance.{Instance}
use Rattle.mf_model.specs.declared.state.PlainState.{PlainState}
use Rattle.mf_model.specs.declared.task.TypedTask.{TypedTask}
use Rattle.mf_model.specs.Application.{action_changes, changes_of, is_applicable}
use Rattle.mf_model.specs.LiveInstances.{live_instances}
use Rattle.mf_model.specs.ResolvedTask.{IsResolvedTask}
use Rattle.mf_model.specs.SearchStates.{HasStartCosts, with_costs}
use Rattle.mf_model.specs.States.{look_of, start_of, value_at}
use Rattle.mf_meaning.specs.SearchPlans.{next_search_state}
use Rattle.mf_search.specs.Space.{Child as SpaceChild, Grown, Listed, LeadsOut}
use Rattle.mf_task.specs.declared.ground.GroundAction.{GroundAction}
use Rattle.mf_task.specs.declared.grown.Offspring.{Offspring}
use Rattle.mf_task.specs.declared.task.Task.{Task}
use Rattle.mf_task.specs.declared.value.Value.{Value}
use Rattle.mf_task.specs.CaseRows.{IsRoot, meaning_of, number_of, offspring_of}
use Rattle.mf_task.specs.GroundMeaning.{action_firing, is_ground_applicable, next_sight}
use Rattle.mf_task.specs.Grounding.{numbering_of}
use Rattle.mf_task.specs.HeuristicValues.{helpful_of, state_value}
use Rattle.mf_task.specs.Rows.{IsRowOf, Sight, sight_of}
use Rattle.mf_task.specs.RowStates.{state_of}
use Rattle.mf_task.specs.Successors.{Case, child_by, children_from, grown_by, packed_of, sight_in, space_of}
use Rattle.mf_task.specs.Width.{is_narrow, way_out}
use Rattle.mf_bridge.specs.Corresponds.{AreSameChanges, HasSight}
use Rattle.mf_bridge.specs.Deeds.{deed_of}
use Rattle.mf_bridge.specs.GroundSuccessors.{AreGroundSuccessors, AreSuccessorsFrom, HasEntry, IsSuccessor}
use Rattle.mf_bridge.specs.Shows.{Shows}
use Rattle.mf_bridge.specs.StoredRows.{HasLowestValues}
use Rattle.mf_bridge.specs.UnlistedAtoms.{HidesUnlistedAtoms}
use Rattle.mf_bridge.proofs.ActionsMade.{is_made, live_actions}
use Rattle.mf_bridge.proofs.ApplicableActions.{applicable_alike}
use Rattle.mf_bridge.proofs.EffectLaws.{action_alike}
use Rattle.mf_bridge.proofs.FiredNames.{changes_are_listed}
use Rattle.mf_bridge.proofs.NextStates.{next_is_next}
use Rattle.mf_bridge.proofs.RowSights.{row_shows, sights_are_same}
use Rattle.mf_bridge.proofs.SameDeeds.{same_from_deeds}
use Rattle.mf_bridge.proofs.StartRows.{start_has_shape, start_is_start}
use Rattle.mf_bridge.proofs.StateLookups.{packed_is_listed, value_with_costs}

module _ (task : TypedTask) (row : RowLists) (resolved : IsResolvedTask task) (shape : IsRowOf (packed_of task) row) (lowest : HasLowestValues row) where
  abbrev packed : Task
  packed = packed_of task

  abbrev state : PlainState
  state = state_of task packed row

  abbrev sight : Sight
  sight = sight_of row

  shows : Shows (numbering_of task (live_instances task)) (look_of (with_costs task state)) sight
  shows = row_shows task (live_instances task) row shape resolved lowest

  hides : HidesUnlistedAtoms (numbering_of task (live_instances task)) sight
  hides = shape.clear (length packed.atoms) (omega arith)

  costs : HasStartCosts task (with_costs task state)
  costs function objects cost = ap is_some (value_with_costs task packed (packed_is_listed task (live_instances task)) row function objects ∙ ap (λ (b : Bool). cond b (value_at (start_of task).values function objects) (value_at state.values function objects)) cost)

  pub row_applicable : (action : GroundAction) → Contains packed.actions action → is_applicable task (with_costs task state) action.instance ≡ is_ground_applicable packed sight action
  row_applicable = applicable_alike task (with_costs task state) sight resolved shows hides costs

  same_changes : (action : GroundAction) → Contains packed.actions action → AreSameChanges task packed sight (action_firing packed sight action) (changes_of task (with_costs task state) action.instance)
  same_changes action contained =
      let made = is_made task (live_instances task) action contained in
      let fires = ap (action_changes task (with_costs task state) action.instance.objects) made.found in
      same_from_deeds task (live_instances task) sight (action_firing packed sight action) (changes_of task (with_costs task state) action.instance)
      (changes_are_listed task (live_instances task) (with_costs task state) action.instance made.contained)
      (ap (map (deed_of (numbering_of task (live_instances task)))) fires ∙ action_alike task (live_instances task) (look_of (with_costs task state)) sight resolved shows hides action made.action contained made.found)

  pub row_next : (action : GroundAction) → Contains packed.actions action → is_ground_applicable packed sight action ≡ true → (next : RowLists) → HasSight packed (next_sight packed sight (action_firing packed sight action)) next → state_of task packed next ≡ next_search_state task state action.instance
  row_next action contained applicable next shows_next =
      next_is_next task packed (packed_is_listed task (live_instances task)) row next action.instance (action_firing packed sight action) shows_next (same_changes action contained) (row_applicable action contained ∙ applicable)

-- the list

module _ (case : Case) (row : RowLists) (resolved : IsResolvedTask case.task) (shape : IsRowOf (packed_of case.task) row) (lowest : HasLowestValues row) (helpful : List ℕ) where
  abbrev state_here : PlainState
  state_here = state_of case.task (packed_of case.task) row

  child_is : (n : ℕ) (action : GroundAction) (entry : Offspring) → Contains (packed_of case.task).actions action → is_ground_applicable (packed_of case.task) (sight_of row) action ≡ true → IsSuccessor (packed_of case.task) (sight_of row) helpful n action entry →
      child_by case.task state_here helpful n action.instance ≡ offspring_of case entry
  unfolding meaning_of
  child_is n action entry contained applicable is = λ i. record {
    instance = sym is.instance_is i;
    state = sym (row_next case.task row resolved shape lowest action contained applicable entry.row is.shows) i;
    helpful = sym is.helpful_is i;
  }

  children_are : (n : ℕ) (actions : List GroundAction) (entries : List Offspring) → AllByRecursion (Contains (packed_of case.task).actions) actions → AreSuccessorsFrom (packed_of case.task) (sight_of row) helpful n actions entries →
      children_from case.task state_here helpful n (map (λ action. action.instance) actions) ≡ map (offspring_of case) entries
  children_are n [] entries contained are = ap (map (offspring_of case)) (sym are)
  children_are n (action ∷ actions) entries contained are =
      ap (λ (b : Bool). cond b (child_by case.task state_here helpful n action.instance ∷ others) others) (row_applicable case.task row resolved shape lowest action contained.0)
      ∙ by (is_ground_applicable (packed_of case.task) (sight_of row) action) refl entries are (λ es. children_are (n + 1) actions es contained.1)
    where
      others : List (SpaceChild PlainState)
      others = children_from case.task state_here helpful (n + 1) (map (λ action. action.instance) actions)

      by : (b : Bool) → is_ground_applicable (packed_of case.task) (sight_of row) action ≡ b → (es : List Offspring) →
          HasEntry b (IsSuccessor (packed_of case.task) (sight_of row) helpful n action) (AreSuccessorsFrom (packed_of case.task) (sight_of row) helpful (n + 1) actions) es →
          ((rest : List Offspring) → AreSuccessorsFrom (packed_of case.task) (sight_of row) helpful (n + 1) actions rest → others ≡ map (offspring_of case) rest) →
          cond b (child_by case.task state_here helpful n action.instance ∷ others) others ≡ map (offspring_of case) es
      by true e [] has below = absurd has
      by true e (entry ∷ rest) has below = ap₂ (λ (c : SpaceChild PlainState) (cs : List (SpaceChild PlainState)). c ∷ cs) (child_is n action entry contained.0 e has.0) (below rest has.1)
      by false e es has below = below es has

  pub live_children_are : (entries : List Offspring) → AreGroundSuccessors (packed_of case.task) (sight_of row) helpful entries → children_from case.task state_here helpful 0 (live_instances case.task) ≡ map (offspring_of case) entries
  live_children_are entries are =
      ap (λ (instances : List Instance). children_from case.task state_here helpful 0 instances) (sym (live_actions case.task))
      ∙ children_are 0 (packed_of case.task).actions entries (recursion_from_All (Contains (packed_of case.task).actions) (packed_of case.task).actions (All-contains_itself (packed_of case.task).actions)) are

module _ (case : Case) (row : RowLists) (shape : IsRowOf (packed_of case.task) row) where
  sights : sight_in (packed_of case.task) (state_of case.task (packed_of case.task) row) ≡ sight_of row
  sights = sights_are_same case.task (packed_of case.task) (packed_is_listed case.task (live_instances case.task)) row shape

  pub value_is : (space_of case).value (meaning_of case row) ≡ state_value case.heuristic (packed_of case.task) (sight_of row)
  unfolding meaning_of space_of
  value_is = ap (state_value case.heuristic (packed_of case.task)) sights

  pub grown_is : IsResolvedTask case.task → HasLowestValues row → (entries : List Offspring) → AreGroundSuccessors (packed_of case.task) (sight_of row) (helpful_of case.heuristic (packed_of case.task) (sight_of row)) entries →
      way_out (packed_of case.task) (sight_of row) ≡ None → (space_of case).grow (meaning_of case row) ≡ Listed (map (offspring_of case) entries)
  unfolding meaning_of space_of
  grown_is resolved lowest entries are none =
      ap (λ (sight : Sight). grown_with (helpful_of case.heuristic (packed_of case.task) sight) (way_out (packed_of case.task) sight)) sights
      ∙ ap (grown_with (helpful_of case.heuristic (packed_of case.task) (sight_of row))) none
      ∙ ap (λ (children : List (SpaceChild PlainState)). Listed children) (live_children_are case row resolved shape lowest (helpful_of case.heuristic (packed_of case.task) (sight_of row)) entries are)
    where
      grown_with : List ℕ → Option ℕ → Grown PlainState
      grown_with helpful (Some n) = LeadsOut n
      grown_with helpful None = Listed (children_from case.task (state_of case.task (packed_of case.task) row) helpful 0 (live_instances case.task))

  pub leads_out_is : (instance : ℕ) → way_out (packed_of case.task) (sight_of row) ≡ Some instance → (space_of case).grow (meaning_of case row) ≡ LeadsOut instance
  unfolding meaning_of space_of
  leads_out_is instance out = ap (grown_by case (state_of case.task (packed_of case.task) row)) (ap (way_out (packed_of case.task)) sights ∙ out)

pub root_is : (case : Case) (value : Value) → is_narrow (packed_of case.task) (sight_of (packed_of case.task).start) ≡ true → state_value case.heuristic (packed_of case.task) (sight_of (packed_of case.task).start) ≡ number_of value → IsRoot case (record { row = (packed_of case.task).start; value = value })
unfolding meaning_of space_of
root_is case value narrow is =
    let shape = start_has_shape case.task (live_instances case.task) in
    record {
      row_is = record { shape = shape; narrow = narrow };
      start_is = start_is_start case.task (live_instances case.task);
      value_is = record { value_is = value_is case (packed_of case.task).start shape ∙ is };
    }
