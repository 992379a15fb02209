use Rattle.mf_open.proofs.Taking.{takes_one}
use Rattle.mf_open.proofs.bucket.Bucket.of_one.Goals as goal

pub returns-clause-takes : goal.returns-clause-takes
returns-clause-takes c = takes_one c.args.nodes.now c.put-at.new.self c.args.key.value c.args.key.plain c.args.key.state _ c.put-at.result c.put-at.ensures
