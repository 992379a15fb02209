use Rattle.mf_open.proofs.Falling.{group_order}
use Rattle.mf_open.proofs.search.order.Goals as goal

pub returns : goal.returns
returns c = group_order c.args.bucket.now.value c.args.key.now.value c.args.bucket.now.plain c.args.key.now.plain c.then.result cc
