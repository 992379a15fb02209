-- What applying an instance answers.
use Rattle.std.specs.Prelude.{◌≡◌, ℕ, Bool, false, ◌&&◌, ◌||◌, not, if◌then◌else◌, List, [], ◌∷◌, Option, Some, None, Result, Ok, Err, slice_get}
use Rattle.std.specs.List.{list_all}
use Rattle.mf_fraction.specs.declared.faults.Wide.{Wide}
use Rattle.mf_fraction.specs.Checked.{wide}
use Rattle.mf_model.specs.declared.state.Instance.{Instance}
use Rattle.mf_model.specs.declared.state.PlainState.{PlainState}
use Rattle.mf_model.specs.declared.task.Action.{Action}
use Rattle.mf_model.specs.declared.task.TypedTask.{TypedTask}
use Rattle.mf_model.specs.declared.task.Valued.{Valued}
use Rattle.mf_model.specs.Application.{Change, Added, Deleted, Changed, action_changes, changed_state, is_apart, is_defined, new_value, precondition_holds, reads_old, with_change}
use Rattle.mf_model.specs.Objects.{kinds_of}
use Rattle.mf_model.specs.States.{look_of, value_at}
use Rattle.mf_eval.specs.declared.fault.ApplyFault.{ApplyFault}
use Rattle.mf_eval.specs.declared.fault.ApplyFault.TheVariants as fault
use Rattle.mf_eval.specs.declared.fault.Why.TheVariants as why
use Rattle.mf_eval.specs.Width.{is_condition_wide, is_effect_wide, is_too_wide}

abbrev pub precondition_is_wide : TypedTask → PlainState → List ℕ → Option Action → Bool
precondition_is_wide task state objects (Some action) = is_condition_wide (kinds_of task) (look_of state) action.condition objects
precondition_is_wide task state objects None = false

abbrev pub effects_are_wide : TypedTask → PlainState → List ℕ → Option Action → Bool
effects_are_wide task state objects (Some action) = is_effect_wide (kinds_of task) (look_of state) action.effect objects
effects_are_wide task state objects None = false

-- the new value of a term after this change does not fit (an assigned value is a right side's, and was looked at there)
abbrev pub is_result_wide : List Valued → Change → Bool
is_result_wide values (Changed op function objects value) = reads_old op && is_too_wide (new_value op (value_at values function objects) value)
is_result_wide values (Added predicate objects) = false
is_result_wide values (Deleted predicate objects) = false

-- some partial result does not fit: they start with the old values and take the changes in order
abbrev pub some_result_is_wide : List Valued → List Change → Bool
some_result_is_wide values [] = false
some_result_is_wide values (change ∷ changes) = is_result_wide values change || some_result_is_wide (with_change values change) changes

-- the first of these that applies, else the next state
abbrev pub changed_outcome : PlainState → List Change → Result PlainState ApplyFault
changed_outcome state changes =
    if not (list_all (is_defined (look_of state)) changes) then Err (fault.NotApplicable why.Undefined)
    else (if not (list_all (is_apart changes) changes) then Err (fault.NotApplicable why.Clash)
    else (if some_result_is_wide state.values changes then Err fault.Wide
    else Ok (changed_state state changes)))

abbrev pub outcome_for : TypedTask → PlainState → List ℕ → Option Action → Result PlainState ApplyFault
outcome_for task state objects action =
    if precondition_is_wide task state objects action then Err fault.Wide
    else (if not (precondition_holds task state objects action) then Err (fault.NotApplicable why.Condition)
    else (if effects_are_wide task state objects action then Err fault.Wide
    else changed_outcome state (action_changes task state objects action)))

-- the next state of an applicable instance of which nothing is too wide, else the first reason against it
abbrev pub outcome_of : TypedTask → PlainState → Instance → Result PlainState ApplyFault
outcome_of task state instance = outcome_for task state instance.objects (slice_get task.actions instance.action)

-- the answer is the outcome; want of memory may come in the place of any
abbrev pub Gives : Result PlainState ApplyFault → Result PlainState ApplyFault → Type 0
Gives outcome (Ok next) = outcome ≡ Ok next
Gives outcome (Err fault.Wide) = outcome ≡ Err fault.Wide
Gives outcome (Err (fault.NotApplicable reason)) = outcome ≡ Err (fault.NotApplicable reason)
Gives outcome (Err fault.Memory) = Unit {0}

-- what was read of a checked value: the value, or that it is too wide
abbrev pub Fails : {A : Type 0} → Result A Wide → ApplyFault → Type 0
Fails checked fault.Wide = checked ≡ Err wide
Fails checked (fault.NotApplicable reason) = ⊥
Fails checked fault.Memory = Unit {0}

abbrev pub Reads : {A B : Type 0} → Result A Wide → Result B ApplyFault → A → Type 0
Reads checked (Ok done) value = checked ≡ Ok value
Reads checked (Err reason) value = Fails checked reason

abbrev pub ReadsItems : {A X : Type 0} → (X → A) → Result A Wide → Result X ApplyFault → Type 0
ReadsItems view checked (Ok done) = checked ≡ Ok (view done)
ReadsItems view checked (Err reason) = Fails checked reason
