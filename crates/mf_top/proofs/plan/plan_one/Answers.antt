use Rattle.mf_top.proofs.CommandLemmas.{serves}
use Rattle.mf_top.proofs.plan.plan_one.Goals as goal

pub returns : goal.returns
returns g c = serves c.args.request.now _ c.decide_plan-decision.result c.decide_plan-decision.ensures c.deliver.ensures
