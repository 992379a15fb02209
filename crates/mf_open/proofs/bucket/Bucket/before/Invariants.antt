use Rattle.std.proofs.Common.{◌-◌}
use Rattle.mf_open.specs.Chains.{node_at}
use Rattle.mf_open.proofs.Spots.{Walks}
use Rattle.mf_open.proofs.bucket.Bucket.before.Given as goal

abbrev pub invariant-loop-passed : goal.invariant-loop-passed
invariant-loop-passed l = Walks (node_at l.nodes.list.items) l.self.more l.self.first l.state (l.self.more - l.passed) l.at
