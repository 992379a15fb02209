use Rattle.mf_validator.specs.declared.verdict.Verdict.TheVariants as verdict
use Rattle.mf_validator.specs.Verdicts.{verdict_of}
use Rattle.mf_validator.proofs.Exactness.{given-ok, given-wide, verdict-says, verdict-wide}
use Rattle.mf_validator.proofs.judging.judge.Goals as goal

pub returns-clause-valid : goal.returns-clause-valid
returns-clause-valid c = λ metric e.
    let task = c.args.task.now in
    let plan = c.args.plan.now in
    verdict-says task plan (verdict.Valid metric) c.requires.steps (given-ok (verdict_of task plan) c.walk.result (verdict.Valid metric) c.walk.ensures e)

pub returns-clause-step_fails : goal.returns-clause-step_fails
returns-clause-step_fails c = λ step why e.
    let task = c.args.task.now in
    let plan = c.args.plan.now in
    verdict-says task plan (verdict.StepFails step why) c.requires.steps (given-ok (verdict_of task plan) c.walk.result (verdict.StepFails step why) c.walk.ensures e)

pub returns-clause-goal_fails : goal.returns-clause-goal_fails
returns-clause-goal_fails c = λ e.
    let task = c.args.task.now in
    let plan = c.args.plan.now in
    verdict-says task plan verdict.GoalFails c.requires.steps (given-ok (verdict_of task plan) c.walk.result verdict.GoalFails c.walk.ensures e)

pub returns-clause-wide : goal.returns-clause-wide
returns-clause-wide c = λ step e.
    let task = c.args.task.now in
    let plan = c.args.plan.now in
    verdict-wide task plan step (given-wide (verdict_of task plan) c.walk.result step c.walk.ensures e)
