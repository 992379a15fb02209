-- What each verdict says of a plan, in the words of applicable instances and valid plans.
use Rattle.std.specs.Prelude.{◌≡◌, ◌⊎◌, ℕ, ◌+◌, true, false, IsTrue, List, [], ◌∷◌, ◌++◌, length, Err}
use Rattle.mf_model.specs.declared.state.Instance.{Instance}
use Rattle.mf_model.specs.declared.state.PlainState.{PlainState}
use Rattle.mf_model.specs.declared.task.TypedTask.{TypedTask}
use Rattle.mf_model.specs.Application.{is_applicable, next_state}
use Rattle.mf_model.specs.Plans.{IsPlan, is_goal}
use Rattle.mf_model.specs.States.{start_of}
use Rattle.mf_eval.specs.declared.fault.ApplyFault.TheVariants as refusal
use Rattle.mf_eval.specs.declared.fault.Why.{Why}
use Rattle.mf_eval.specs.Outcome.{outcome_of}
use Rattle.mf_validator.specs.declared.verdict.Reported.{Reported}
use Rattle.mf_validator.specs.declared.verdict.Verdict.{Verdict}
use Rattle.mf_validator.specs.declared.verdict.Verdict.TheVariants as verdict
use Rattle.mf_validator.specs.Verdicts.{goal_is_wide, metric_is_wide, reported_of}

-- the state after steps that are applied in turn
abbrev pub state_after : TypedTask → PlainState → List Instance → PlainState
state_after task state [] = state
state_after task state (step ∷ steps) = state_after task (next_state task state step) steps

abbrev pub last_state : TypedTask → List Instance → PlainState
last_state task plan = state_after task (start_of task) plan

-- a value that applying the step needs does not fit
abbrev pub IsTooWide : TypedTask → PlainState → Instance → Type 0
IsTooWide task state step = outcome_of task state step ≡ Err refusal.Wide

-- the step is not applicable, and this is the first reason
pub record Fails (task : TypedTask) (why : Why) (state : PlainState) (step : Instance) : Type 0 where
  pub fails : is_applicable task state step ≡ false
  pub reason : outcome_of task state step ≡ Err (refusal.NotApplicable why)

-- the steps are applicable in turn from this state, and no value is too wide
abbrev pub AreApplied : TypedTask → PlainState → List Instance → Type 0
AreApplied task state [] = Unit {0}
AreApplied task state (step ∷ steps) =
    IsTrue (is_applicable task state step) × ¬ IsTooWide task state step × AreApplied task (next_state task state step) steps

-- all steps before the one with this number, from 1, are applied, and this is so of that one
pub record StopsAt (task : TypedTask) (Refused : PlainState → Instance → Type 0) (state : PlainState) (steps : List Instance) (number : ℕ) : Type 0 where
  pub front : List Instance
  pub step : Instance
  pub rest : List Instance
  pub parts : steps ≡ front ++ step ∷ rest
  pub counted : number ≡ length front + 1
  pub applied : AreApplied task state front
  pub refused : Refused (state_after task state front) step

-- the goal holds after all steps, the metric has this value, and no value anywhere is too wide
pub record IsValid (task : TypedTask) (plan : List Instance) (metric : Reported) : Type 0 where
  pub is_plan : IsPlan task plan
  pub applied : AreApplied task (start_of task) plan
  pub goal_fits : goal_is_wide task (last_state task plan) ≡ false
  pub metric_fits : metric_is_wide task.metric (length plan) (last_state task plan) ≡ false
  pub metric_is : metric ≡ reported_of task.metric (length plan) (last_state task plan)

-- all steps apply, and the goal does not hold after them
pub record MissesGoal (task : TypedTask) (plan : List Instance) : Type 0 where
  pub applied : AreApplied task (start_of task) plan
  pub goal_fits : goal_is_wide task (last_state task plan) ≡ false
  pub misses : is_goal task (last_state task plan) ≡ false

abbrev pub Says : TypedTask → List Instance → Verdict → Type 0
Says task plan (verdict.Valid metric) = IsValid task plan metric
Says task plan (verdict.StepFails step why) = StopsAt task (Fails task why) (start_of task) plan step
Says task plan verdict.GoalFails = MissesGoal task plan

-- all steps apply, and the goal is too wide after them, or it holds and the metric is too wide
pub record EndsTooWide (task : TypedTask) (plan : List Instance) (number : ℕ) : Type 0 where
  pub counted : number ≡ length plan + 1
  pub applied : AreApplied task (start_of task) plan
  pub wide : (goal_is_wide task (last_state task plan) ≡ true)
      ⊎ ((goal_is_wide task (last_state task plan) ≡ false) × IsTrue (is_goal task (last_state task plan)) × (metric_is_wide task.metric (length plan) (last_state task plan) ≡ true))

-- the step with this number is too wide and all before it were applied, or the end behind all steps is
abbrev pub IsWideAt : TypedTask → List Instance → ℕ → Type 0
IsWideAt task plan number = StopsAt task (IsTooWide task) (start_of task) plan number ⊎ EndsTooWide task plan number
