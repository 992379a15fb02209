use Rattle.mf_validator.proofs.VerdictLemmas.{valid-is}
use Rattle.mf_validator.proofs.judging.report.Goals as goal

pub returns-in-Ok : goal.returns-in-Ok
returns-in-Ok c = valid-is c.args.task.now.metric c.in-Some.metric c.args.steps c.from.result c.args.state.now c.in-Ok.value c.shown.result c.in-Some.is c.from.ensures c.in-Ok.ensures c.shown.ensures
