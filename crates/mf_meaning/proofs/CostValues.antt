-- A state with the terms of cost functions at their start values.
use Rattle.std.proofs.Common.{◌≡◌, ℕ, Bool, true, false, not, cond, List, [], ◌∷◌, Option, Some, None, refl, sym, ap, ◌∙◌}
use Rattle.std.specs.List.{AllByRecursion, filter, fold}
use Rattle.std.specs.Option.{is_some, option_or}
use Rattle.std.proofs.lemmas.Bool.{not_from_true}
use Rattle.mf_fraction.specs.Exact.{Number}
use Rattle.mf_model.specs.declared.task.Valued.{Valued}
use Rattle.mf_model.specs.declared.task.TypedTask.{TypedTask}
use Rattle.mf_model.specs.declared.state.PlainState.{PlainState}
use Rattle.mf_model.specs.Functions.{is_cost}
use Rattle.mf_model.specs.SearchStates.{is_cost_value, search_state, with_costs, HasStartCosts}
use Rattle.mf_model.specs.States.{cell_before, look_of, start_of, value_at, with_value}
use Rattle.mf_meaning.proofs.Agreement.{AgreesBeside}
use Rattle.mf_meaning.proofs.Filtered.{of_functions, of_functions-other}
use Rattle.mf_meaning.proofs.Lookups.{value_at-filter, value_at-fold}
use Rattle.mf_meaning.proofs.SortedLists.{sorted-filter}
use Rattle.mf_meaning.proofs.SortedStates.{start_is_sorted}

abbrev pub is_no_cost : TypedTask → ℕ → Bool
is_no_cost task function = not (is_cost task function)

-- cost functions have their start values, and each other function has its own
either : (cost : Bool) (start own : Option Number) → option_or (cond cost start None) (cond (not cost) own None) ≡ cond cost start own
either true None own = refl
either true (Some n) own = refl
either false start own = refl

pub value_at-with_costs : (task : TypedTask) (state : PlainState) (function : ℕ) (objects : List ℕ) →
    value_at (with_costs task (search_state task state)).values function objects ≡ cond (is_cost task function) (value_at (start_of task).values function objects) (value_at state.values function objects)
value_at-with_costs task state function objects =
    let costs = filter (is_cost_value task) (start_of task).values in
    let others = of_functions (is_no_cost task) state.values in
    value_at-fold others costs function objects (sorted-filter cell_before (is_cost_value task) (start_of task).values (start_is_sorted task).values)
    ∙ ap (λ (x : Option Number). option_or x (value_at others function objects)) (value_at-filter (is_cost task) (start_of task).values function objects)
    ∙ ap (λ (x : Option Number). option_or (cond (is_cost task function) (value_at (start_of task).values function objects) None) x) (value_at-filter (is_no_cost task) state.values function objects)
    ∙ either (is_cost task function) (value_at (start_of task).values function objects) (value_at state.values function objects)

-- the two states agree beside cost functions
pub agrees_with_costs : (task : TypedTask) (state : PlainState) → AgreesBeside (is_cost task) (look_of state) (look_of (with_costs task (search_state task state)))
agrees_with_costs task state = record {
  atom = refl;
  value = λ function objects visible. sym (value_at-with_costs task state function objects ∙ ap (λ (b : Bool). cond b (value_at (start_of task).values function objects) (value_at state.values function objects)) visible);
  steps = refl;
}

-- and define the same terms
pub defined_alike : (task : TypedTask) (state : PlainState) → HasStartCosts task state → (function : ℕ) (objects : List ℕ) →
    is_some (value_at state.values function objects) ≡ is_some (value_at (with_costs task (search_state task state)).values function objects)
defined_alike task state costs function objects = by (is_cost task function) refl ∙ sym (ap (λ (x : Option Number). is_some x) (value_at-with_costs task state function objects))
  where
    by : (b : Bool) → is_cost task function ≡ b → is_some (value_at state.values function objects) ≡ is_some (cond (is_cost task function) (value_at (start_of task).values function objects) (value_at state.values function objects))
    by true e = rw e (costs function objects e)
    by false e = rw e refl

-- the search state of a search state with costs is that search state

pub filter_twice : {X : Type 0} (test : X → Bool) (xs : List X) → filter test (filter test xs) ≡ filter test xs
filter_twice test [] = refl
filter_twice {X} test (x ∷ xs) = again (filter_twice test xs) (test x) refl
  where
    again : (filter test (filter test xs) ≡ filter test xs) → (b : Bool) → test x ≡ b → filter test (cond b (x ∷ filter test xs) (filter test xs)) ≡ cond b (x ∷ filter test xs) (filter test xs)
    again rest true e = rw e (ap (λ ys. x ∷ ys) rest)
    again rest false e = rest

passing : {X : Type 0} (test : X → Bool) (xs : List X) → AllByRecursion (λ x. test x ≡ true) (filter test xs)
passing test [] = tt
passing {X} test (x ∷ xs) = kept (passing test xs) (test x) refl
  where
    kept : AllByRecursion (λ y. test y ≡ true) (filter test xs) → (b : Bool) → test x ≡ b → AllByRecursion (λ y. test y ≡ true) (cond b (x ∷ filter test xs) (filter test xs))
    kept rest true e = (e, rest)
    kept rest false e = rest

of_functions-fold : (test : ℕ → Bool) (ws vs : List Valued) → AllByRecursion (λ v. test v.cell.function ≡ false) vs → of_functions test (fold with_value ws vs) ≡ of_functions test ws
of_functions-fold test ws [] all = refl
of_functions-fold test ws (v ∷ vs) all = of_functions-fold test (with_value ws v) vs all.1 ∙ of_functions-other test ws v all.0

not_all : (test : ℕ → Bool) (vs : List Valued) → AllByRecursion (λ v. test v.cell.function ≡ true) vs → AllByRecursion (λ v. not (test v.cell.function) ≡ false) vs
not_all test [] all = tt
not_all test (v ∷ vs) all = (not_from_true (test v.cell.function) all.0, not_all test vs all.1)

pub search_state-with_costs : (task : TypedTask) (state : PlainState) → search_state task (with_costs task (search_state task state)) ≡ search_state task state
search_state-with_costs task state =
    let costs = filter (is_cost_value task) (start_of task).values in
    let values = of_functions-fold (is_no_cost task) (of_functions (is_no_cost task) state.values) costs (not_all (is_cost task) costs (passing (is_cost_value task) (start_of task).values))
    ∙ filter_twice (λ v. is_no_cost task v.cell.function) state.values in
    ap (λ (vs : List Valued). record { atoms = state.atoms; values = vs }) values
