-- The space of a task's plain states, with the value by goal counting.
use Rattle.std.specs.Prelude.{ℕ, ◌+◌, false, if◌then◌else◌, List, [], ◌∷◌, Some}
use Rattle.mf_model.specs.declared.task.TypedTask.{TypedTask}
use Rattle.mf_model.specs.declared.state.Instance.{Instance}
use Rattle.mf_model.specs.declared.state.PlainState.{PlainState}
use Rattle.mf_model.specs.Application.{instances_of, is_applicable, next_state}
use Rattle.mf_model.specs.States.{start_of}
use Rattle.mf_search.specs.Space.{Child, Listed, Space}
use Rattle.mf_plain.specs.GoalCount.{goal_count}
use Rattle.mf_plain.specs.SameState.{same_state, same_state_is}

-- the state that the instance of this number leads to
abbrev pub child : TypedTask → PlainState → ℕ → Instance → Child PlainState
child task state n instance = record { instance = n; state = next_state task state instance; helpful = false }

-- the children by the applicable ones of the instances, which are numbered from n on
abbrev pub children_from : TypedTask → PlainState → ℕ → List Instance → List (Child PlainState)
children_from task state n [] = []
children_from task state n (instance ∷ others) =
    if is_applicable task state instance
    then child task state n instance ∷ children_from task state (n + 1) others
    else children_from task state (n + 1) others

abbrev pub children_in : TypedTask → PlainState → List (Child PlainState)
children_in task state = children_from task state 0 (instances_of task)

-- Every state has a successor list and a finite value: no state counts as dead.
abbrev pub space_of : TypedTask → Space PlainState
space_of task = record {
  start = start_of task;
  value = λ state. Some (goal_count task state);
  grow = λ state. Listed (children_in task state);
  same = same_state;
  same_is = same_state_is;
}
