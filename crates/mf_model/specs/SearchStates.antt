-- Search states: plain states without the terms of cost functions.
use Rattle.std.specs.Prelude.{◌≡◌, ℕ, Bool, true, not, List, filter, is_some}
use Rattle.std.specs.List.{fold}
use Rattle.mf_model.specs.declared.task.Valued.{Valued}
use Rattle.mf_model.specs.declared.task.TypedTask.{TypedTask}
use Rattle.mf_model.specs.declared.state.PlainState.{PlainState}
use Rattle.mf_model.specs.Functions.{is_cost}
use Rattle.mf_model.specs.States.{start_of, value_at, with_value}

abbrev pub is_cost_value : TypedTask → Valued → Bool
is_cost_value task v = is_cost task v.cell.function

-- the state without the terms of cost functions
abbrev pub search_state : TypedTask → PlainState → PlainState
search_state task state = record { atoms = state.atoms; values = filter (λ v. not (is_cost_value task v)) state.values }

-- a search state with the terms of cost functions put back, at their start values
abbrev pub with_costs : TypedTask → PlainState → PlainState
with_costs task state = record { atoms = state.atoms; values = fold with_value state.values (filter (is_cost_value task) (start_of task).values) }

-- the terms of cost functions are defined exactly where they are at the start
abbrev pub HasStartCosts : TypedTask → PlainState → Type 0
HasStartCosts task state =
    (function : ℕ) (objects : List ℕ) → is_cost task function ≡ true
    → is_some (value_at state.values function objects) ≡ is_some (value_at (start_of task).values function objects)
