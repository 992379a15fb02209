use Rattle.std.proofs.Common.{◌≡◌, ℕ, ◌+◌, ◌≤◌, List, length, drop, Result, sym, subst, ap, ◌∙◌, arith}
use Rattle.std.specs.List.{Contains}
use Rattle.std.proofs.lemmas.List.{drop_all}
use Rattle.std.proofs.lemmas.List.Elements.{All-get_or}
use Rattle.mf_model.specs.declared.state.Instance.{Instance}
use Rattle.mf_model.specs.Application.{instances_of}
use Rattle.mf_eval.specs.Outcome.{outcome_of}
use Rattle.mf_validator.specs.declared.fault.JudgeFault.{JudgeFault}
use Rattle.mf_validator.specs.declared.verdict.Verdict.{Verdict}
use Rattle.mf_validator.specs.Verdicts.{Gives, end_verdict, refused_verdict, verdict_from, verdict_of}
use Rattle.mf_validator.proofs.VerdictLemmas.{given_itself, step-at, step_done, step_refused}
use Rattle.mf_validator.proofs.judging.walk.Goals as goal

pub apply-requires-clause-step : goal.apply-requires-clause-step
apply-requires-clause-step c =
    let task = c.args.task.now in
    let step = c.index-plan-done.result in
    subst (λ (s : Instance). Contains (instances_of task) s) (sym c.index-plan-done.is) (All-get_or (Contains (instances_of task)) c.args.plan.now c.loop-done.done step c.loop-done-test.true c.requires.steps)

pub returns-in-Err : goal.returns-in-Err
returns-in-Err c =
    let task = c.args.task.now in
    let plan = c.args.plan.now in
    let i = c.loop-done.done in
    let step = c.index-plan-done.result in
    let judged = step-at task plan i c.loop-done.state step c.loop-done-test.true c.index-plan-done.is in
    let refused = step_refused (i + 1) (verdict_from task (drop (i + 1) plan) (i + 1)) (outcome_of task c.loop-done.state step) c.in-Err.fault c.in-Err.ensures.outcome in
    rw c.refused.ensures (subst (λ (v : Result Verdict JudgeFault). Gives v (refused_verdict (i + 1) c.in-Err.fault)) (sym judged ∙ c.loop-done.invariant.verdict) refused)

pub loop-done-preserved : goal.loop-done-preserved
loop-done-preserved c =
    let task = c.args.task.now in
    let plan = c.args.plan.now in
    let i = c.loop-done.done in
    let step = c.index-plan-done.result in
    record {
      sorted = c.in-Ok.ensures.sorted;
      verdict = sym (step_done (i + 1) (verdict_from task (drop (i + 1) plan) (i + 1)) (outcome_of task c.loop-done.state step) c.in-Ok.next c.in-Ok.ensures.outcome)
          ∙ sym (step-at task plan i c.loop-done.state step c.loop-done-test.true c.index-plan-done.is)
          ∙ c.loop-done.invariant.verdict;
    }

pub returns : goal.returns
returns c =
    let task = c.args.task.now in
    let plan = c.args.plan.now in
    let i = c.loop-done.done in
    let state = c.loop-done.state in
    let past : length plan ≤ i = omega (arith, c.loop-done-test.false) in
    let end : i ≡ length plan = omega (arith, past, c.loop-done.auto.done-end) in
    let same : c.conclude.result ≡ verdict_of task plan =
    c.conclude.ensures ∙ ap (λ (n : ℕ). end_verdict task n state) (sym end)
    ∙ sym (ap (λ (steps : List Instance). verdict_from task steps i state) (drop_all i plan past))
    ∙ c.loop-done.invariant.verdict in
    subst (λ (v : Result Verdict JudgeFault). Gives (verdict_of task plan) v) (sym same) (given_itself (verdict_of task plan))
