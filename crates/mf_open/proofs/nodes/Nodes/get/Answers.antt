use Rattle.std.proofs.Common.{length, arith}
use Rattle.std.proofs.lemmas.List.{get_or_read}
use Rattle.mf_open.proofs.Places.{within_from_past}
use Rattle.mf_open.proofs.nodes.Nodes.get.Goals as goal

pub index-requires : goal.index-requires
index-requires c =
    let within = within_from_past (length c.args.self.now.list.items) c.args.at (omega arith) in
    omega (arith, c.args.self.now.list.ok.0)

pub returns : goal.returns
returns c = get_or_read c.args.self.now.list.items c.args.at _ (within_from_past (length c.args.self.now.list.items) c.args.at (omega arith)) c.index.ensures (record { state = 0; next = 0 })
