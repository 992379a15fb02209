-- What is applicable, where it leads and whether the goal holds depends on the search state alone.
use Rattle.std.proofs.Common.{◌≡◌, ℕ, Bool, true, false, not, ◌&&◌, ◌||◌, List, [], ◌∷◌, Option, Some, None, slice_get, refl, sym, ap, ◌∙◌}
use Rattle.std.specs.List.{fold, list_all}
use Rattle.std.specs.Option.{is_some}
use Rattle.mf_fraction.specs.Exact.{Number}
use Rattle.mf_model.specs.declared.task.Action.{Action}
use Rattle.mf_model.specs.declared.task.Cond.{Cond}
use Rattle.mf_model.specs.declared.task.Valued.{Valued}
use Rattle.mf_model.specs.declared.task.TypedTask.{TypedTask}
use Rattle.mf_model.specs.declared.truth.Truth.{Truth}
use Rattle.mf_model.specs.declared.state.Instance.{Instance}
use Rattle.mf_model.specs.declared.state.PlainState.{PlainState}
use Rattle.mf_model.specs.Application.{Change, Added, Deleted, Changed, action_changes, changed_state, changes_of, divides_by_zero, is_applicable, is_apart, is_defined, new_value, next_state, precondition_holds, reads_old, with_change, with_some_value}
use Rattle.mf_model.specs.Functions.{is_cost}
use Rattle.mf_model.specs.Meaning.{holds_in, is_yes}
use Rattle.mf_model.specs.Objects.{kinds_of}
use Rattle.mf_model.specs.Plans.{is_goal}
use Rattle.mf_model.specs.SearchStates.{search_state, with_costs, HasStartCosts}
use Rattle.mf_model.specs.States.{cell_before, look_of, value_at}
use Rattle.mf_model.specs.Views.{Look}
use Rattle.mf_meaning.specs.SearchPlans.{ReadsNoCost}
use Rattle.mf_meaning.specs.SortedStates.{IsSortedList, IsSortedState}
use Rattle.mf_meaning.proofs.ActionsOf.{action_is_free, goal_is_free}
use Rattle.mf_meaning.proofs.Agreement.{firing_agrees, truth_agrees}
use Rattle.mf_meaning.proofs.CostValues.{agrees_with_costs, defined_alike, is_no_cost, search_state-with_costs}
use Rattle.mf_meaning.proofs.Filtered.{of_functions, of_functions-other, of_functions-own}
use Rattle.mf_meaning.proofs.Lookups.{value_at-filter}
use Rattle.mf_meaning.proofs.SortedStates.{costs_are_sorted, search_state_is_sorted, sorted-with_change}

-- conditions and the goal

pub holds_alike : (task : TypedTask) (state : PlainState) (condition : Cond) (b : List ℕ) → ReadsNoCost task condition →
    holds_in (kinds_of task) (look_of state) condition b ≡ holds_in (kinds_of task) (look_of (with_costs task (search_state task state))) condition b
holds_alike task state condition b free =
    ap (λ (truth : List ℕ → Truth). is_yes (truth b)) (truth_agrees (is_cost task) (look_of state) (look_of (with_costs task (search_state task state))) (agrees_with_costs task state) (kinds_of task) condition free)

pub goal_alike : (task : TypedTask) (state : PlainState) → is_goal task state ≡ is_goal task (with_costs task (search_state task state))
goal_alike task state = holds_alike task state task.goal [] (goal_is_free task)

-- changes

changes_alike : (task : TypedTask) (state : PlainState) (instance : Instance) → changes_of task state instance ≡ changes_of task (with_costs task (search_state task state)) instance
changes_alike task state instance = at (slice_get task.actions instance.action) refl
  where
    at : (found : Option Action) → slice_get task.actions instance.action ≡ found → action_changes task state instance.objects found ≡ action_changes task (with_costs task (search_state task state)) instance.objects found
    at (Some action) is =
        ap (λ (changes : List ℕ → List Change). changes instance.objects) (firing_agrees (is_cost task) (look_of state) (look_of (with_costs task (search_state task state))) (agrees_with_costs task state) (kinds_of task) action.effect (action_is_free task instance.action action is).effect)
    at None is = refl

precondition_alike : (task : TypedTask) (state : PlainState) (instance : Instance) → precondition_holds task state instance.objects (slice_get task.actions instance.action) ≡ precondition_holds task (with_costs task (search_state task state)) instance.objects (slice_get task.actions instance.action)
precondition_alike task state instance = at (slice_get task.actions instance.action) refl
  where
    at : (found : Option Action) → slice_get task.actions instance.action ≡ found → precondition_holds task state instance.objects found ≡ precondition_holds task (with_costs task (search_state task state)) instance.objects found
    at (Some action) is = holds_alike task state action.condition instance.objects (action_is_free task instance.action action is).condition
    at None is = refl

-- applicable instances

list_all_alike : {X : Type 0} (p q : X → Bool) → ((x : X) → p x ≡ q x) → (xs : List X) → list_all p xs ≡ list_all q xs
list_all_alike p q alike xs = ap (λ (test : _ → Bool). list_all test xs) (λ i x. alike x i)

is_defined_alike : (one other : Look) → ((function : ℕ) (objects : List ℕ) → is_some (one.value function objects) ≡ is_some (other.value function objects)) → (change : Change) → is_defined one change ≡ is_defined other change
is_defined_alike one other alike (Added predicate objects) = refl
is_defined_alike one other alike (Deleted predicate objects) = refl
is_defined_alike one other alike (Changed op function objects value) =
    ap (λ (old : Bool). is_some value && not (divides_by_zero op value) && (not (reads_old op) || old)) (alike function objects)

pub applicable_alike : (task : TypedTask) (state : PlainState) (instance : Instance) → HasStartCosts task state → is_applicable task state instance ≡ is_applicable task (with_costs task (search_state task state)) instance
applicable_alike task state instance costs =
    let changes = changes_of task state instance in
    let searched = with_costs task (search_state task state) in
    let defined = list_all_alike (is_defined (look_of state)) (is_defined (look_of searched)) (is_defined_alike (look_of state) (look_of searched) (defined_alike task state costs)) changes in
    ap (λ (holds : Bool). holds && list_all (is_defined (look_of state)) changes && list_all (is_apart changes) changes) (precondition_alike task state instance)
    ∙ ap (λ (all : Bool). precondition_holds task searched instance.objects (slice_get task.actions instance.action) && all && list_all (is_apart changes) changes) defined
    ∙ ap (λ (cs : List Change). precondition_holds task searched instance.objects (slice_get task.actions instance.action) && list_all (is_defined (look_of searched)) cs && list_all (is_apart cs) cs) (changes_alike task state instance)

-- next states

-- two sorted lists of values that are the same for the functions that pass the test
record AreAlike (test : ℕ → Bool) (ones others : List Valued) : Type 0 where
  first : IsSortedList cell_before ones
  second : IsSortedList cell_before others
  same : of_functions test ones ≡ of_functions test others

module _ (test : ℕ → Bool) where
  put_other : (values : List Valued) (function : ℕ) (objects : List ℕ) (value : Option Number) → test function ≡ false → of_functions test (with_some_value values function objects value) ≡ of_functions test values
  put_other values function objects (Some value) other = of_functions-other test values (record { cell = record { function = function; objects = objects }; value = value }) other
  put_other values function objects None other = refl

  put_own : (values : List Valued) (function : ℕ) (objects : List ℕ) (value : Option Number) → IsSortedList cell_before values → test function ≡ true → of_functions test (with_some_value values function objects value) ≡ with_some_value (of_functions test values) function objects value
  put_own values function objects (Some value) sorted own = of_functions-own test values (record { cell = record { function = function; objects = objects }; value = value }) sorted own
  put_own values function objects None sorted own = refl

  found_own : (values : List Valued) (function : ℕ) (objects : List ℕ) → test function ≡ true → value_at values function objects ≡ value_at (of_functions test values) function objects
  found_own values function objects own = sym (value_at-filter test values function objects ∙ rw own refl)

  change_alike : (ones others : List Valued) (change : Change) → AreAlike test ones others → of_functions test (with_change ones change) ≡ of_functions test (with_change others change)
  change_alike ones others (Added predicate objects) alike = alike.same
  change_alike ones others (Deleted predicate objects) alike = alike.same
  change_alike ones others (Changed op function objects value) alike = by (test function) refl
    where
      by : (b : Bool) → test function ≡ b → of_functions test (with_some_value ones function objects (new_value op (value_at ones function objects) value)) ≡ of_functions test (with_some_value others function objects (new_value op (value_at others function objects) value))
      by false is = put_other ones function objects _ is ∙ alike.same ∙ sym (put_other others function objects _ is)
      by true is =
          let old = found_own ones function objects is ∙ ap (λ (vs : List Valued). value_at vs function objects) alike.same ∙ sym (found_own others function objects is) in
          put_own ones function objects (new_value op (value_at ones function objects) value) alike.first is
          ∙ ap (λ (vs : List Valued). with_some_value vs function objects (new_value op (value_at ones function objects) value)) alike.same
          ∙ ap (λ (x : Option Number). with_some_value (of_functions test others) function objects (new_value op x value)) old
          ∙ sym (put_own others function objects (new_value op (value_at others function objects) value) alike.second is)

  changes_keep : (ones others : List Valued) (changes : List Change) → AreAlike test ones others → of_functions test (fold with_change ones changes) ≡ of_functions test (fold with_change others changes)
  changes_keep ones others [] alike = alike.same
  changes_keep ones others (change ∷ changes) alike = changes_keep (with_change ones change) (with_change others change) changes (record {
    first = sorted-with_change ones change alike.first;
    second = sorted-with_change others change alike.second;
    same = change_alike ones others change alike;
  })

pub next_alike : (task : TypedTask) (state : PlainState) (instance : Instance) → IsSortedState state → search_state task (next_state task state instance) ≡ search_state task (next_state task (with_costs task (search_state task state)) instance)
next_alike task state instance sorted =
    let searched = with_costs task (search_state task state) in
    let alike : AreAlike (is_no_cost task) state.values searched.values = record {
      first = sorted.values;
      second = (costs_are_sorted task (search_state task state) (search_state_is_sorted task state sorted)).values;
      same = sym (ap (λ (s : PlainState). s.values) (search_state-with_costs task state));
    } in
    ap (λ (vs : List Valued). record { atoms = (next_state task state instance).atoms; values = vs }) (changes_keep (is_no_cost task) state.values searched.values (changes_of task state instance) alike)
    ∙ ap (λ (changes : List Change). search_state task (changed_state searched changes)) (changes_alike task state instance)
