-- Each verdict is given exactly where it is so of the plan.
use Rattle.std.proofs.Common.{◌≡◌, refl, sym, ◌∙◌, ap, subst, ℕ, ◌+◌, Bool, true, false, List, [], ◌∷◌, ◌++◌, length, Result, Ok, Err, IsTrue, arith, inl, inr}
use Rattle.std.specs.List.{All, Contains}
use Rattle.std.proofs.lemmas.List.Elements.{All-head, All-tail}
use Rattle.mf_model.proofs.Choices.{if_true, if_false}
use Rattle.mf_model.specs.declared.state.Instance.{Instance}
use Rattle.mf_model.specs.declared.state.PlainState.{PlainState}
use Rattle.mf_model.specs.declared.task.TypedTask.{TypedTask}
use Rattle.mf_model.specs.Application.{instances_of, is_applicable, next_state}
use Rattle.mf_model.specs.Plans.{IsPlan, IsValidFrom, is_goal}
use Rattle.mf_model.specs.States.{start_of}
use Rattle.mf_eval.specs.declared.fault.ApplyFault.{ApplyFault}
use Rattle.mf_eval.specs.declared.fault.ApplyFault.TheVariants as refusal
use Rattle.mf_eval.specs.declared.fault.Why.{Why}
use Rattle.mf_eval.specs.Outcome.{outcome_of}
use Rattle.mf_validator.specs.declared.fault.JudgeFault.{JudgeFault}
use Rattle.mf_validator.specs.declared.fault.JudgeFault.TheVariants as fault
use Rattle.mf_validator.specs.declared.verdict.Reported.{Reported}
use Rattle.mf_validator.specs.declared.verdict.Verdict.{Verdict}
use Rattle.mf_validator.specs.declared.verdict.Verdict.TheVariants as verdict
use Rattle.mf_validator.specs.Validity.{AreApplied, EndsTooWide, Fails, IsTooWide, IsValid, IsWideAt, MissesGoal, Says, StopsAt, last_state, state_after}
use Rattle.mf_validator.specs.Verdicts.{Gives, end_verdict, goal_is_wide, metric_is_wide, refused_verdict, reported_of, step_verdict, verdict_from, verdict_of}
use Rattle.mf_validator.proofs.Applying.{Outcome, Applied, TooWide, Failed, applied-is, outcome-sorted}

-- ---- the steps before

-- the steps in front are applied, and the rest is judged from the state after them
through : (task : TypedTask) (front rest : List Instance) (done : ℕ) (state : PlainState) → AreApplied task state front
    → verdict_from task (front ++ rest) done state ≡ verdict_from task rest (done + length front) (state_after task state front)
through task [] rest done state applied = let same : done ≡ done + 0 = omega arith in ap (λ n. verdict_from task rest n state) same
through task (step ∷ front) rest done state applied =
    let next : PlainState = next_state task state step in
    let is : outcome_of task state step ≡ Ok next = applied-is (is_applicable task state step) next (outcome_of task state step) (outcome-sorted task state step) applied.0 applied.1 in
    let more : (done + 1) + length front ≡ done + length (step ∷ front) = omega arith in
    ap (step_verdict (done + 1) (verdict_from task (front ++ rest) (done + 1))) is
    ∙ through task front rest (done + 1) next applied.2
    ∙ ap (λ n. verdict_from task rest n (state_after task next front)) more

-- ---- the end

differ : (b : Bool) → b ≡ true → b ≡ false → ⊥
differ b t f = cc

is_false : (b : Bool) → ¬ (b ≡ true) → b ≡ false
is_false true h = absurd (h refl)
is_false false h = refl

append_none : (steps : List Instance) → steps ++ [] ≡ steps
append_none [] = refl
append_none (step ∷ steps) = ap (λ s. step ∷ s) (append_none steps)

at_end : (task : TypedTask) (plan : List Instance) → AreApplied task (start_of task) plan → verdict_of task plan ≡ end_verdict task (length plan) (last_state task plan)
at_end task plan applied =
    let count : 0 + length plan ≡ length plan = omega arith in
    ap (λ steps. verdict_from task steps 0 (start_of task)) (sym (append_none plan))
    ∙ through task plan [] 0 (start_of task) applied
    ∙ ap (λ n. end_verdict task n (last_state task plan)) count

plan_ends : (task : TypedTask) (state : PlainState) (steps : List Instance) → IsValidFrom task state steps → IsTrue (is_goal task (state_after task state steps))
plan_ends task state [] valid = valid
plan_ends task state (step ∷ steps) valid = plan_ends task (next_state task state step) steps valid.2

-- all steps are applied, the goal holds, and no value at the end is too wide
ends_well : (task : TypedTask) (plan : List Instance) → AreApplied task (start_of task) plan
    → goal_is_wide task (last_state task plan) ≡ false → is_goal task (last_state task plan) ≡ true → metric_is_wide task.metric (length plan) (last_state task plan) ≡ false
    → verdict_of task plan ≡ Ok (verdict.Valid (reported_of task.metric (length plan) (last_state task plan)))
ends_well task plan applied goal_fits goal metric_fits =
    at_end task plan applied
    ∙ if_false (goal_is_wide task (last_state task plan)) _ _ goal_fits
    ∙ if_true (is_goal task (last_state task plan)) _ _ goal
    ∙ if_false (metric_is_wide task.metric (length plan) (last_state task plan)) _ _ metric_fits

valid-verdict : (task : TypedTask) (plan : List Instance) (metric : Reported) → IsValid task plan metric → verdict_of task plan ≡ Ok (verdict.Valid metric)
valid-verdict task plan metric valid =
    ends_well task plan valid.applied valid.goal_fits (plan_ends task (start_of task) plan valid.is_plan) valid.metric_fits
    ∙ ap (λ r. Ok (verdict.Valid r)) (sym valid.metric_is)

misses-verdict : (task : TypedTask) (plan : List Instance) → MissesGoal task plan → verdict_of task plan ≡ Ok verdict.GoalFails
misses-verdict task plan misses =
    at_end task plan misses.applied
    ∙ if_false (goal_is_wide task (last_state task plan)) _ _ misses.goal_fits
    ∙ if_false (is_goal task (last_state task plan)) _ _ misses.misses

stops-verdict : (task : TypedTask) (plan : List Instance) (Refused : PlainState → Instance → Type 0) (number : ℕ) (reason : ApplyFault)
    → ((state : PlainState) (step : Instance) → Refused state step → outcome_of task state step ≡ Err reason)
    → StopsAt task Refused (start_of task) plan number → verdict_of task plan ≡ refused_verdict number reason
stops-verdict task plan Refused number reason refuses stops =
    let count : (0 + length stops.front) + 1 ≡ number = omega (arith, stops.counted) in
    let state : PlainState = state_after task (start_of task) stops.front in
    ap (λ steps. verdict_from task steps 0 (start_of task)) stops.parts
    ∙ through task stops.front (stops.step ∷ stops.rest) 0 (start_of task) stops.applied
    ∙ ap (step_verdict ((0 + length stops.front) + 1) (verdict_from task stops.rest ((0 + length stops.front) + 1))) (refuses state stops.step stops.refused)
    ∙ ap (λ n. refused_verdict n reason) count

end_too_wide : (task : TypedTask) (plan : List Instance) (number : ℕ) → EndsTooWide task plan number → end_verdict task (length plan) (last_state task plan) ≡ Err (fault.Wide (length plan + 1))
end_too_wide task plan number ends =
    let state : PlainState = last_state task plan in
    elim ends.wide [
      | inl wide ↦ if_true (goal_is_wide task state) _ _ wide
      | inr wide ↦ if_false (goal_is_wide task state) _ _ wide.0 ∙ if_true (is_goal task state) _ _ wide.1 ∙ if_true (metric_is_wide task.metric (length plan) state) _ _ wide.2
    ]

end-verdict : (task : TypedTask) (plan : List Instance) (number : ℕ) → EndsTooWide task plan number → verdict_of task plan ≡ Err (fault.Wide number)
end-verdict task plan number ends =
    at_end task plan ends.applied ∙ end_too_wide task plan number ends ∙ ap (λ n. Err (fault.Wide n)) (sym ends.counted)

-- ---- what is so of the plan is the verdict

pub says-verdict : (task : TypedTask) (plan : List Instance) (said : Verdict) → Says task plan said → verdict_of task plan ≡ Ok said
says-verdict task plan (verdict.Valid metric) says = valid-verdict task plan metric says
says-verdict task plan (verdict.StepFails step why) says = stops-verdict task plan (Fails task why) step (refusal.NotApplicable why) (λ state s fails. fails.reason) says
says-verdict task plan verdict.GoalFails says = misses-verdict task plan says

pub wide-verdict : (task : TypedTask) (plan : List Instance) (number : ℕ) → IsWideAt task plan number → verdict_of task plan ≡ Err (fault.Wide number)
wide-verdict task plan number wide = elim wide [
  | inl stops ↦ stops-verdict task plan (IsTooWide task) number refusal.Wide (λ state s is. is) stops
  | inr ends ↦ end-verdict task plan number ends
]

-- ---- one of them is so of each plan

data Walked (task : TypedTask) (state : PlainState) (steps : List Instance) : Type 0 where
  Through : AreApplied task state steps → Walked task state steps
  FailsAt : (number : ℕ) (why : Why) → StopsAt task (Fails task why) state steps number → Walked task state steps
  WideAt : (number : ℕ) → StopsAt task (IsTooWide task) state steps number → Walked task state steps

longer : (task : TypedTask) (Refused : PlainState → Instance → Type 0) (state : PlainState) (step : Instance) (steps : List Instance) (number : ℕ)
    → IsTrue (is_applicable task state step) → ¬ IsTooWide task state step
    → StopsAt task Refused (next_state task state step) steps number → StopsAt task Refused state (step ∷ steps) (number + 1)
longer task Refused state step steps number able narrow stops = record {
  front = step ∷ stops.front;
  step = stops.step;
  rest = stops.rest;
  parts = ap (λ s. step ∷ s) stops.parts;
  counted = omega (arith, stops.counted);
  applied = (able, narrow, stops.applied);
  refused = stops.refused;
}

at_once : (task : TypedTask) (Refused : PlainState → Instance → Type 0) (state : PlainState) (step : Instance) (steps : List Instance) → Refused state step → StopsAt task Refused state (step ∷ steps) 1
at_once task Refused state step steps refused = record { front = []; step = step; rest = steps; parts = refl; counted = refl; applied = tt; refused = refused }

one_more : (task : TypedTask) (state : PlainState) (step : Instance) (steps : List Instance) → IsTrue (is_applicable task state step) → ¬ IsTooWide task state step
    → Walked task (next_state task state step) steps → Walked task state (step ∷ steps)
one_more task state step steps able narrow (Through applied) = Through (able, narrow, applied)
one_more task state step steps able narrow (FailsAt number why stops) = FailsAt (number + 1) why (longer task (Fails task why) state step steps number able narrow stops)
one_more task state step steps able narrow (WideAt number stops) = WideAt (number + 1) (longer task (IsTooWide task) state step steps number able narrow stops)

not_wide : (outcome : Result PlainState ApplyFault) (next : PlainState) → outcome ≡ Ok next → ¬ (outcome ≡ Err refusal.Wide)
not_wide outcome next e = λ w. cc

walked_by : (task : TypedTask) (state : PlainState) (step : Instance) (steps : List Instance) → Outcome (is_applicable task state step) (next_state task state step) (outcome_of task state step)
    → Walked task (next_state task state step) steps → Walked task state (step ∷ steps)
walked_by task state step steps (Applied able is) others = one_more task state step steps able (not_wide (outcome_of task state step) (next_state task state step) is) others
walked_by task state step steps (TooWide is) others = WideAt 1 (at_once task (IsTooWide task) state step steps is)
walked_by task state step steps (Failed why unable is) others = FailsAt 1 why (at_once task (Fails task why) state step steps (record { fails = unable; reason = is }))

walked : (task : TypedTask) (state : PlainState) (steps : List Instance) → Walked task state steps
walked task state [] = Through tt
walked task state (step ∷ steps) = walked_by task state step steps (outcome-sorted task state step) (walked task (next_state task state step) steps)

valid_from : (task : TypedTask) (state : PlainState) (steps : List Instance) → All (Contains (instances_of task)) steps → AreApplied task state steps
    → IsTrue (is_goal task (state_after task state steps)) → IsValidFrom task state steps
valid_from task state [] within applied goal = goal
valid_from task state (step ∷ steps) within applied goal =
    (All-head (Contains (instances_of task)) step steps within, applied.0, valid_from task (next_state task state step) steps (All-tail (Contains (instances_of task)) step steps within) applied.2 goal)

-- what the verdict says of a list of steps is so where they are instances
data Found (task : TypedTask) (plan : List Instance) : Type 0 where
  Said : (said : Verdict) → verdict_of task plan ≡ Ok said → (All (Contains (instances_of task)) plan → Says task plan said) → Found task plan
  Wide : (number : ℕ) → IsWideAt task plan number → Found task plan

ended : (task : TypedTask) (plan : List Instance) → AreApplied task (start_of task) plan → (unread goal overflows : Bool)
    → goal_is_wide task (last_state task plan) ≡ unread → is_goal task (last_state task plan) ≡ goal → metric_is_wide task.metric (length plan) (last_state task plan) ≡ overflows → Found task plan
ended task plan applied true goal overflows u g o = Wide (length plan + 1) (inr (record { counted = refl; applied = applied; wide = inl u }))
ended task plan applied false false overflows u g o =
    let misses : MissesGoal task plan = record { applied = applied; goal_fits = u; misses = g } in
    Said verdict.GoalFails (misses-verdict task plan misses) (λ within. misses)
ended task plan applied false true true u g o = Wide (length plan + 1) (inr (record { counted = refl; applied = applied; wide = inr (u, g, o) }))
ended task plan applied false true false u g o = Said (verdict.Valid (reported_of task.metric (length plan) (last_state task plan)))
    (ends_well task plan applied u g o)
    (λ within. record { is_plan = valid_from task (start_of task) plan within applied g; applied = applied; goal_fits = u; metric_fits = o; metric_is = refl })

found_by : (task : TypedTask) (plan : List Instance) → Walked task (start_of task) plan → Found task plan
found_by task plan (Through applied) = ended task plan applied (goal_is_wide task (last_state task plan)) (is_goal task (last_state task plan)) (metric_is_wide task.metric (length plan) (last_state task plan)) refl refl refl
found_by task plan (FailsAt number why stops) = Said (verdict.StepFails number why) (says-verdict task plan (verdict.StepFails number why) stops) (λ within. stops)
found_by task plan (WideAt number stops) = Wide number (inl stops)

found : (task : TypedTask) (plan : List Instance) → Found task plan
found task plan = found_by task plan (walked task (start_of task) plan)

-- ---- the verdict is so of the plan

same_verdict : (judged : Result Verdict JudgeFault) (said other : Verdict) → judged ≡ Ok said → judged ≡ Ok other → said ≡ other
same_verdict judged said other d e = cc

same_place : (judged : Result Verdict JudgeFault) (number other : ℕ) → judged ≡ Err (fault.Wide number) → judged ≡ Err (fault.Wide other) → number ≡ other
same_place judged number other d e = cc

not_both : (judged : Result Verdict JudgeFault) (said : Verdict) (number : ℕ) → judged ≡ Ok said → judged ≡ Err (fault.Wide number) → ⊥
not_both judged said number d e = cc

verdict_by : (task : TypedTask) (plan : List Instance) (said : Verdict) → All (Contains (instances_of task)) plan → verdict_of task plan ≡ Ok said → Found task plan → Says task plan said
verdict_by task plan said within e (Said other is says) = subst (λ v. Says task plan v) (same_verdict (verdict_of task plan) other said is e) (says within)
verdict_by task plan said within e (Wide number wide) = absurd (not_both (verdict_of task plan) said number e (wide-verdict task plan number wide))

pub verdict-says : (task : TypedTask) (plan : List Instance) (said : Verdict) → All (Contains (instances_of task)) plan → verdict_of task plan ≡ Ok said → Says task plan said
verdict-says task plan said within e = verdict_by task plan said within e (found task plan)

wide_by : (task : TypedTask) (plan : List Instance) (number : ℕ) → verdict_of task plan ≡ Err (fault.Wide number) → Found task plan → IsWideAt task plan number
wide_by task plan number e (Said said is says) = absurd (not_both (verdict_of task plan) said number is e)
wide_by task plan number e (Wide other wide) = subst (λ n. IsWideAt task plan n) (same_place (verdict_of task plan) other number (wide-verdict task plan other wide) e) wide

pub verdict-wide : (task : TypedTask) (plan : List Instance) (number : ℕ) → verdict_of task plan ≡ Err (fault.Wide number) → IsWideAt task plan number
verdict-wide task plan number e = wide_by task plan number e (found task plan)

-- ---- a plan that is nowhere too wide is valid

at_step : (task : TypedTask) (state : PlainState) (front rest : List Instance) (step : Instance) → IsValidFrom task state (front ++ step ∷ rest) → IsTrue (is_applicable task (state_after task state front) step)
at_step task state [] rest step valid = valid.1
at_step task state (s ∷ front) rest step valid = at_step task (next_state task state s) front rest step valid.2

no_step_fails : (task : TypedTask) (plan : List Instance) (number : ℕ) (why : Why) → IsPlan task plan → StopsAt task (Fails task why) (start_of task) plan number → ⊥
no_step_fails task plan number why valid stops =
    let able : IsTrue (is_applicable task (state_after task (start_of task) stops.front) stops.step) =
    at_step task (start_of task) stops.front stops.rest stops.step (subst (λ steps. IsValidFrom task (start_of task) steps) stops.parts valid) in
    differ (is_applicable task (state_after task (start_of task) stops.front) stops.step) able stops.refused.fails

plan_by : (task : TypedTask) (plan : List Instance) → IsPlan task plan → ((number : ℕ) → ¬ IsWideAt task plan number) → Walked task (start_of task) plan
    → IsValid task plan (reported_of task.metric (length plan) (last_state task plan))
plan_by task plan valid narrow (Through applied) =
    let state : PlainState = last_state task plan in
    let goal : IsTrue (is_goal task state) = plan_ends task (start_of task) plan valid in
    let goal_fits : goal_is_wide task state ≡ false = is_false (goal_is_wide task state) (λ wide. narrow (length plan + 1) (inr (record { counted = refl; applied = applied; wide = inl wide }))) in
    record {
      is_plan = valid;
      applied = applied;
      goal_fits = goal_fits;
      metric_fits = is_false (metric_is_wide task.metric (length plan) state) (λ wide. narrow (length plan + 1) (inr (record { counted = refl; applied = applied; wide = inr (goal_fits, goal, wide) })));
      metric_is = refl;
    }
plan_by task plan valid narrow (FailsAt number why stops) = absurd (no_step_fails task plan number why valid stops)
plan_by task plan valid narrow (WideAt number stops) = absurd (narrow number (inl stops))

pub plan-valid : (task : TypedTask) (plan : List Instance) → IsPlan task plan → ((number : ℕ) → ¬ IsWideAt task plan number)
    → verdict_of task plan ≡ Ok (verdict.Valid (reported_of task.metric (length plan) (last_state task plan)))
plan-valid task plan valid narrow =
    valid-verdict task plan (reported_of task.metric (length plan) (last_state task plan)) (plan_by task plan valid narrow (walked task (start_of task) plan))

-- what a call that gives the verdict answers is the verdict
pub given-ok : (judged result : Result Verdict JudgeFault) (said : Verdict) → Gives judged result → result ≡ Ok said → judged ≡ Ok said
given-ok judged result said gives e = subst (λ r. Gives judged r) e gives

pub given-wide : (judged result : Result Verdict JudgeFault) (step : ℕ) → Gives judged result → result ≡ Err (fault.Wide step) → judged ≡ Err (fault.Wide step)
given-wide judged result step gives e = subst (λ r. Gives judged r) e gives
