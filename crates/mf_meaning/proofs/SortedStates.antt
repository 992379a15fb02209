-- States stay sorted.
use Rattle.std.proofs.Common.{ℕ, not, List, [], Option, Some, None}
use Rattle.std.specs.List.{filter, flat_map, fold}
use Rattle.mf_fraction.specs.Exact.{Number}
use Rattle.mf_model.specs.declared.task.Valued.{Valued}
use Rattle.mf_model.specs.declared.task.TypedTask.{TypedTask}
use Rattle.mf_model.specs.declared.state.PlainState.{PlainState}
use Rattle.mf_model.specs.Application.{Change, Added, Deleted, Changed, added, deleted, with_some_value, with_change, new_value, changed_state}
use Rattle.mf_model.specs.SearchStates.{is_cost_value, search_state, with_costs}
use Rattle.mf_model.specs.States.{atom_before, cell_before, start_of, value_at, with_atom, without_atom, with_value}
use Rattle.mf_meaning.specs.SortedStates.{IsSortedList, IsSortedState}
use Rattle.mf_meaning.proofs.SortedLists.{sorted-filter, sorted-fold, sorted-with_atom, sorted-with_value, sorted-without_atom}

pub start_is_sorted : (task : TypedTask) → IsSortedState (start_of task)
start_is_sorted task = record {
  atoms = sorted-fold atom_before with_atom sorted-with_atom [] task.atoms tt;
  values = sorted-fold cell_before with_value sorted-with_value [] task.values tt;
}

sorted-with_some_value : (values : List Valued) (function : ℕ) (objects : List ℕ) (value : Option Number) → IsSortedList cell_before values → IsSortedList cell_before (with_some_value values function objects value)
sorted-with_some_value values function objects (Some value) sorted = sorted-with_value values (record { cell = record { function = function; objects = objects }; value = value }) sorted
sorted-with_some_value values function objects None sorted = sorted

pub sorted-with_change : (values : List Valued) (change : Change) → IsSortedList cell_before values → IsSortedList cell_before (with_change values change)
sorted-with_change values (Added predicate objects) sorted = sorted
sorted-with_change values (Deleted predicate objects) sorted = sorted
sorted-with_change values (Changed op function objects value) sorted = sorted-with_some_value values function objects (new_value op (value_at values function objects) value) sorted

pub change_is_sorted : (state : PlainState) (changes : List Change) → IsSortedState state → IsSortedState (changed_state state changes)
change_is_sorted state changes sorted = record {
  atoms = sorted-fold atom_before with_atom sorted-with_atom (fold without_atom state.atoms (flat_map deleted changes)) (flat_map added changes)
      (sorted-fold atom_before without_atom sorted-without_atom state.atoms (flat_map deleted changes) sorted.atoms);
  values = sorted-fold cell_before with_change sorted-with_change state.values changes sorted.values;
}

pub search_state_is_sorted : (task : TypedTask) (state : PlainState) → IsSortedState state → IsSortedState (search_state task state)
search_state_is_sorted task state sorted = record { atoms = sorted.atoms; values = sorted-filter cell_before (λ v. not (is_cost_value task v)) state.values sorted.values }

pub costs_are_sorted : (task : TypedTask) (state : PlainState) → IsSortedState state → IsSortedState (with_costs task state)
costs_are_sorted task state sorted = record { atoms = sorted.atoms; values = sorted-fold cell_before with_value sorted-with_value state.values (filter (is_cost_value task) (start_of task).values) sorted.values }
