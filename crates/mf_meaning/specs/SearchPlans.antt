-- Plans that lead from one search state to the next. What is read of a search state is read with the terms of cost
-- functions at their start values.
use Rattle.std.specs.Prelude.{◌≡◌, ℕ, true, IsTrue, List, [], ◌∷◌, Contains}
use Rattle.mf_model.specs.declared.task.Cond.{Cond}
use Rattle.mf_model.specs.declared.task.TypedTask.{TypedTask}
use Rattle.mf_model.specs.declared.state.Instance.{Instance}
use Rattle.mf_model.specs.declared.state.PlainState.{PlainState}
use Rattle.mf_model.specs.Application.{instances_of, is_applicable, next_state}
use Rattle.mf_model.specs.Expressions.{every_side}
use Rattle.mf_model.specs.Functions.{avoids, is_cost}
use Rattle.mf_model.specs.Plans.{is_goal}
use Rattle.mf_model.specs.SearchStates.{search_state, with_costs}

-- no comparison of the condition reads a cost function
abbrev pub ReadsNoCost : TypedTask → Cond → Type 0
ReadsNoCost task condition = (function : ℕ) → is_cost task function ≡ true → every_side (avoids function) condition ≡ true

-- the search state to which an instance leads
abbrev pub next_search_state : TypedTask → PlainState → Instance → PlainState
next_search_state task state instance = search_state task (next_state task (with_costs task state) instance)

-- each instance is one of these, and applicable in turn; the goal holds at the end
abbrev pub IsSearchPlanAmong : TypedTask → List Instance → PlainState → List Instance → Type 0
IsSearchPlanAmong task instances state [] = IsTrue (is_goal task (with_costs task state))
IsSearchPlanAmong task instances state (step ∷ steps) =
    Contains instances step × IsTrue (is_applicable task (with_costs task state) step) × IsSearchPlanAmong task instances (next_search_state task state step) steps

-- a plan from a search state, of instances of the task
abbrev pub IsSearchPlanFrom : TypedTask → PlainState → List Instance → Type 0
IsSearchPlanFrom task = IsSearchPlanAmong task (instances_of task)
