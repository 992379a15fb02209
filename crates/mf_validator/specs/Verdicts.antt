-- What judging a plan answers.
use Rattle.std.specs.Prelude.{◌≡◌, ℕ, ◌+◌, Bool, false, if◌then◌else◌, List, [], ◌∷◌, Option, Some, None, Result, Ok, Err}
use Rattle.mf_fraction.specs.Exact.{Number}
use Rattle.mf_model.specs.declared.state.Instance.{Instance}
use Rattle.mf_model.specs.declared.state.PlainState.{PlainState}
use Rattle.mf_model.specs.declared.task.Metric.{Metric}
use Rattle.mf_model.specs.declared.task.TypedTask.{TypedTask}
use Rattle.mf_model.specs.Objects.{kinds_of}
use Rattle.mf_model.specs.Plans.{is_goal, metric_value}
use Rattle.mf_model.specs.States.{look_of, look_after, start_of}
use Rattle.mf_eval.specs.declared.fault.ApplyFault.{ApplyFault}
use Rattle.mf_eval.specs.declared.fault.ApplyFault.TheVariants as refusal
use Rattle.mf_eval.specs.Outcome.{outcome_of}
use Rattle.mf_eval.specs.Width.{is_condition_wide, is_wide}
use Rattle.mf_validator.specs.declared.fault.JudgeFault.{JudgeFault}
use Rattle.mf_validator.specs.declared.fault.JudgeFault.TheVariants as fault
use Rattle.mf_validator.specs.declared.verdict.Reported.{Reported}
use Rattle.mf_validator.specs.declared.verdict.Reported.TheVariants as reported
use Rattle.mf_validator.specs.declared.verdict.Verdict.{Verdict}
use Rattle.mf_validator.specs.declared.verdict.Verdict.TheVariants as verdict

-- the goal reads a value that does not fit
abbrev pub goal_is_wide : TypedTask → PlainState → Bool
goal_is_wide task state = is_condition_wide (kinds_of task) (look_of state) task.goal []

-- the metric, with so many steps as its `total-time`, reads a value that does not fit
abbrev pub metric_is_wide : Option Metric → ℕ → PlainState → Bool
metric_is_wide (Some metric) steps state = is_wide (look_after steps state) metric.value []
metric_is_wide None steps state = false

abbrev pub reported_value : Option Number → Reported
reported_value (Some value) = reported.Value value
reported_value None = reported.Undefined

-- what is reported of the metric after so many steps
abbrev pub reported_of : Option Metric → ℕ → PlainState → Reported
reported_of None steps state = reported.Absent
reported_of (Some metric) steps state = reported_value (metric_value (Some metric) steps state)

-- the goal holds after so many steps
abbrev pub valid_verdict : Option Metric → ℕ → PlainState → Result Verdict JudgeFault
valid_verdict metric steps state =
    if metric_is_wide metric steps state then Err (fault.Wide (steps + 1)) else Ok (verdict.Valid (reported_of metric steps state))

-- after all of so many steps: the goal is looked at, and the metric only where the goal holds
abbrev pub end_verdict : TypedTask → ℕ → PlainState → Result Verdict JudgeFault
end_verdict task steps state =
    if goal_is_wide task state then Err (fault.Wide (steps + 1))
    else (if is_goal task state then valid_verdict task.metric steps state else Ok verdict.GoalFails)

-- the step with this number was not applied
abbrev pub refused_verdict : ℕ → ApplyFault → Result Verdict JudgeFault
refused_verdict step refusal.Wide = Err (fault.Wide step)
refused_verdict step (refusal.NotApplicable why) = Ok (verdict.StepFails step why)
refused_verdict step refusal.Memory = Err fault.Memory

-- the rest is judged from the next state where the step was applied
abbrev pub step_verdict : ℕ → (PlainState → Result Verdict JudgeFault) → Result PlainState ApplyFault → Result Verdict JudgeFault
step_verdict step rest (Ok next) = rest next
step_verdict step rest (Err reason) = refused_verdict step reason

-- the steps one after another, behind so many others that led to this state
abbrev pub verdict_from : TypedTask → List Instance → ℕ → PlainState → Result Verdict JudgeFault
verdict_from task [] done state = end_verdict task done state
verdict_from task (step ∷ steps) done state = step_verdict (done + 1) (verdict_from task steps (done + 1)) (outcome_of task state step)

abbrev pub verdict_of : TypedTask → List Instance → Result Verdict JudgeFault
verdict_of task plan = verdict_from task plan 0 (start_of task)

-- the answer is the verdict; want of memory may come in the place of any
abbrev pub Gives : Result Verdict JudgeFault → Result Verdict JudgeFault → Type 0
Gives judged (Ok said) = judged ≡ Ok said
Gives judged (Err (fault.Wide step)) = judged ≡ Err (fault.Wide step)
Gives judged (Err fault.Memory) = Unit {0}
