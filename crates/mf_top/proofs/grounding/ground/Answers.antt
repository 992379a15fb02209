use Rattle.mf_top.proofs.CommandLemmas.{serves}
use Rattle.mf_top.proofs.grounding.ground.Goals as goal

pub returns : goal.returns
returns g c = serves c.args.request.now _ c.decide_ground-decision.result c.decide_ground-decision.ensures c.deliver.ensures
