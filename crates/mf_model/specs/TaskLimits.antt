-- The limits that the task of two files keeps.
use Rattle.std.specs.Prelude.{◌≤◌, length}
use Rattle.std.specs.List.{All}
use Rattle.mf_model.specs.declared.task.Symbol.{Symbol}
use Rattle.mf_model.specs.declared.task.Action.{Action}
use Rattle.mf_model.specs.declared.task.TypedTask.{TypedTask}
use Rattle.mf_model.specs.VariableScopes.{BindsFewVariables, scope_of}

-- each predicate, function and action has at most 32 parameters
pub record HaveFewParameters (task : TypedTask) : Type 0 where
  pub predicates : All (λ (s : Symbol). length s.parameters ≤ 32) task.predicates
  pub functions : All (λ (s : Symbol). length s.parameters ≤ 32) task.functions
  pub actions : All (λ (a : Action). length a.parameters ≤ 32) task.actions

-- how many objects and actions it has, how many parameters each predicate, function and action has, and how many
-- variables are in scope at any place of an action or of the goal
pub record IsWithinLimits (task : TypedTask) : Type 0 where
  pub objects : length task.objects ≤ 65535
  pub actions : length task.actions ≤ 1000
  pub parameters : HaveFewParameters task
  pub variables : All BindsFewVariables task.actions
  pub goal : scope_of task.goal ≤ 64
