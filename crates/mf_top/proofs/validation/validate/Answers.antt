use Rattle.mf_top.proofs.CommandLemmas.{serves}
use Rattle.mf_top.proofs.validation.validate.Goals as goal

pub returns : goal.returns
returns g c = serves c.args.request.now _ c.decide_judgement-decision.result c.decide_judgement-decision.ensures c.deliver.ensures
