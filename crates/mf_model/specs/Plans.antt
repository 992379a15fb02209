-- Valid plans of a task, and their metric.
use Rattle.std.specs.Prelude.{ℕ, Bool, IsTrue, List, [], ◌∷◌, Option, Some, None, Contains}
use Rattle.mf_fraction.specs.Exact.{Number}
use Rattle.mf_model.specs.declared.task.Metric.{Metric}
use Rattle.mf_model.specs.declared.task.TypedTask.{TypedTask}
use Rattle.mf_model.specs.declared.state.Instance.{Instance}
use Rattle.mf_model.specs.declared.state.PlainState.{PlainState}
use Rattle.mf_model.specs.Application.{instances_of, is_applicable, next_state}
use Rattle.mf_model.specs.Meaning.{holds_in, value_of}
use Rattle.mf_model.specs.Objects.{kinds_of}
use Rattle.mf_model.specs.States.{look_of, look_after, start_of}

abbrev pub is_goal : TypedTask → PlainState → Bool
is_goal task state = holds_in (kinds_of task) (look_of state) task.goal []

-- each instance is one of the task, and applicable in turn; the goal holds at the end
abbrev pub IsValidFrom : TypedTask → PlainState → List Instance → Type 0
IsValidFrom task state [] = IsTrue (is_goal task state)
IsValidFrom task state (step ∷ steps) =
    Contains (instances_of task) step × IsTrue (is_applicable task state step) × IsValidFrom task (next_state task state step) steps

abbrev pub IsPlan : TypedTask → List Instance → Type 0
IsPlan task steps = IsValidFrom task (start_of task) steps

abbrev pub metric_value : Option Metric → ℕ → PlainState → Option Number
metric_value (Some metric) steps state = value_of (look_after steps state) metric.value []
metric_value None steps state = None
