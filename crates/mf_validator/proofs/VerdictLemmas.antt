-- The verdict one step at a time.
use Rattle.std.proofs.Common.{◌≡◌, refl, sym, ◌∙◌, ap, subst, ℕ, suc, ◌+◌, ◌<◌, Bool, true, false, List, [], ◌∷◌, length, Option, Some, Result, Ok, Err, get_or, drop, drop-cons, add-one, if◌then◌else◌}
use Rattle.mf_fraction.specs.Exact.{Number}
use Rattle.mf_model.specs.declared.state.Instance.{Instance}
use Rattle.mf_model.specs.declared.state.PlainState.{PlainState}
use Rattle.mf_model.specs.declared.task.Metric.{Metric}
use Rattle.mf_model.specs.declared.task.TypedTask.{TypedTask}
use Rattle.mf_model.specs.Meaning.{value_of}
use Rattle.mf_model.specs.States.{look_after}
use Rattle.mf_eval.specs.declared.fault.ApplyFault.{ApplyFault}
use Rattle.mf_eval.specs.declared.fault.ApplyFault.TheVariants as refusal
use Rattle.mf_eval.specs.Answers.{answered}
use Rattle.mf_eval.specs.Outcome as outcome
use Rattle.mf_eval.specs.Width.{is_wide}
use Rattle.mf_validator.specs.declared.fault.JudgeFault.{JudgeFault}
use Rattle.mf_validator.specs.declared.fault.JudgeFault.TheVariants as fault
use Rattle.mf_validator.specs.declared.verdict.Reported.{Reported}
use Rattle.mf_validator.specs.declared.verdict.Verdict.{Verdict}
use Rattle.mf_validator.specs.declared.verdict.Verdict.TheVariants as verdict
use Rattle.mf_validator.specs.Verdicts.{Gives, refused_verdict, step_verdict, verdict_from, valid_verdict, reported_value}

-- the verdict of the steps from place i on, by the outcome of the step there
pub step-at : (task : TypedTask) (plan : List Instance) (i : ℕ) (state : PlainState) (step : Instance) → i < length plan → step ≡ get_or plan i step
    → verdict_from task (drop i plan) i state ≡ step_verdict (i + 1) (verdict_from task (drop (i + 1) plan) (i + 1)) (outcome.outcome_of task state step)
step-at task plan i state step within is =
    let steps : drop i plan ≡ step ∷ drop (i + 1) plan = rw (add-one) (drop-cons plan i step within ∙ ap (λ s. s ∷ drop (suc i) plan) (sym is)) in
    ap (λ steps. verdict_from task steps i state) steps

-- a verdict is given by itself
pub given_itself : (said : Result Verdict JudgeFault) → Gives said said
given_itself (Ok said) = refl
given_itself (Err (fault.Wide step)) = refl
given_itself (Err fault.Memory) = tt

-- a step that was applied
pub step_done : (n : ℕ) (rest : PlainState → Result Verdict JudgeFault) (applied : Result PlainState ApplyFault) (next : PlainState) → applied ≡ Ok next → step_verdict n rest applied ≡ rest next
step_done n rest applied next e = ap (step_verdict n rest) e

-- a step that was not
pub step_refused : (n : ℕ) (rest : PlainState → Result Verdict JudgeFault) (applied : Result PlainState ApplyFault) (reason : ApplyFault) → outcome.Gives applied (Err reason) → Gives (step_verdict n rest applied) (refused_verdict n reason)
step_refused n rest applied refusal.Wide e = ap (step_verdict n rest) e
step_refused n rest applied (refusal.NotApplicable why) e = ap (step_verdict n rest) e
step_refused n rest applied refusal.Memory e = tt

valid_where : (wide : Bool) (value answer : Option Number) (steps : ℕ) (shown : Reported) → Ok answer ≡ answered wide value → shown ≡ reported_value answer
    → Ok (verdict.Valid shown) ≡ (if wide then Err (fault.Wide (steps + 1)) else Ok (verdict.Valid (reported_value value)))
valid_where true value answer steps shown e s = cc
valid_where false value answer steps shown e s = let same : answer ≡ value = cc in ap (λ r. Ok (verdict.Valid r)) (s ∙ ap reported_value same)

-- what a metric with a value that fits is reported as
pub valid-is : (given : Option Metric) (metric : Metric) (steps count : ℕ) (state : PlainState) (answer : Option Number) (shown : Reported) → given ≡ Some metric → count ≡ steps
    → Ok answer ≡ answered (is_wide (look_after count state) metric.value []) (value_of (look_after count state) metric.value []) → shown ≡ reported_value answer
    → Ok (verdict.Valid shown) ≡ valid_verdict given steps state
valid-is given metric steps count state answer shown is same e s =
    let at_steps : Ok answer ≡ answered (is_wide (look_after steps state) metric.value []) (value_of (look_after steps state) metric.value []) =
    subst (λ n. Ok answer ≡ answered (is_wide (look_after n state) metric.value []) (value_of (look_after n state) metric.value [])) same e in
    valid_where (is_wide (look_after steps state) metric.value []) (value_of (look_after steps state) metric.value []) answer steps shown at_steps s
    ∙ ap (λ m. valid_verdict m steps state) (sym is)
