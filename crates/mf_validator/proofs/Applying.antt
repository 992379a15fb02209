-- What the outcome of a step says of whether it is applicable.
use Rattle.std.proofs.Common.{◌≡◌, refl, Bool, true, false, ◌&&◌, not, if◌then◌else◌, Result, Ok, Err, IsTrue}
use Rattle.std.specs.List.{list_all}
use Rattle.mf_model.specs.declared.state.Instance.{Instance}
use Rattle.mf_model.specs.declared.state.PlainState.{PlainState}
use Rattle.mf_model.specs.declared.task.TypedTask.{TypedTask}
use Rattle.mf_model.specs.Application.{is_applicable, is_apart, is_defined, next_state, changes_of, precondition_holds}
use Rattle.mf_model.specs.States.{look_of}
use Rattle.mf_eval.specs.declared.fault.ApplyFault.{ApplyFault}
use Rattle.mf_eval.specs.declared.fault.ApplyFault.TheVariants as refusal
use Rattle.mf_eval.specs.declared.fault.Why.{Why}
use Rattle.mf_eval.specs.declared.fault.Why.TheVariants as why
use Rattle.mf_eval.specs.Outcome.{effects_are_wide, outcome_of, precondition_is_wide, some_result_is_wide}
use Rattle.std.proofs.Common.{slice_get}

pub data Outcome (applicable : Bool) (next : PlainState) (outcome : Result PlainState ApplyFault) : Type 0 where
  Applied : applicable ≡ true → outcome ≡ Ok next → Outcome applicable next outcome
  TooWide : outcome ≡ Err refusal.Wide → Outcome applicable next outcome
  Failed : (reason : Why) → applicable ≡ false → outcome ≡ Err (refusal.NotApplicable reason) → Outcome applicable next outcome

sorted : (unread met unfired defined apart wide : Bool) (next : PlainState)
    → Outcome (met && defined && apart) next
    (if unread then Err refusal.Wide
    else (if not met then Err (refusal.NotApplicable why.Condition)
    else (if unfired then Err refusal.Wide
    else (if not defined then Err (refusal.NotApplicable why.Undefined)
    else (if not apart then Err (refusal.NotApplicable why.Clash)
    else (if wide then Err refusal.Wide
    else Ok next))))))
sorted true met unfired defined apart wide next = TooWide refl
sorted false false unfired defined apart wide next = Failed why.Condition refl refl
sorted false true true defined apart wide next = TooWide refl
sorted false true false false apart wide next = Failed why.Undefined refl refl
sorted false true false true false wide next = Failed why.Clash refl refl
sorted false true false true true true next = TooWide refl
sorted false true false true true false next = Applied refl refl

pub outcome-sorted : (task : TypedTask) (state : PlainState) (step : Instance) → Outcome (is_applicable task state step) (next_state task state step) (outcome_of task state step)
outcome-sorted task state step =
    sorted (precondition_is_wide task state step.objects (slice_get task.actions step.action)) (precondition_holds task state step.objects (slice_get task.actions step.action))
    (effects_are_wide task state step.objects (slice_get task.actions step.action)) (list_all (is_defined (look_of state)) (changes_of task state step)) (list_all (is_apart (changes_of task state step)) (changes_of task state step))
    (some_result_is_wide state.values (changes_of task state step)) (next_state task state step)

-- an applicable step that is not too wide is applied
pub applied-is : (applicable : Bool) (next : PlainState) (outcome : Result PlainState ApplyFault) → Outcome applicable next outcome → IsTrue applicable → ¬ (outcome ≡ Err refusal.Wide) → outcome ≡ Ok next
applied-is applicable next outcome (Applied able is) holds narrow = is
applied-is applicable next outcome (TooWide is) holds narrow = absurd (narrow is)
applied-is applicable next outcome (Failed reason unable is) holds narrow = cc
