use Rattle.std.proofs.Common.{length, refl, arith}
use Rattle.std.proofs.lemmas.List.{length-set}
use Rattle.mf_open.specs.declared.nodes.Node.{Node}
use Rattle.mf_open.proofs.Places.{within_from_past, set_elsewhere, spare_given}
use Rattle.mf_open.proofs.nodes.Nodes.release.Goals as goal

pub index_mut-requires : goal.index_mut-requires
index_mut-requires c =
    let within = within_from_past (length c.args.self.now.list.items) c.args.at (omega arith) in
    omega (arith, c.args.self.now.list.ok.0)

pub returns : goal.returns
returns c =
    let old = c.args.self.now in
    let ns = old.list.items in
    let v : Node = record { state = c.index_mut.result.now.state; next = old.free } in
    let within = within_from_past (length ns) c.args.at (omega arith) in
    let long = length-set ns c.args.at v in
    record {
      elsewhere = λ p h. set_elsewhere ns c.args.at v p h;
      given = λ p. spare_given ns old.free old.spare c.args.at v within (omega arith) refl p;
      counted = (refl, long);
      room = omega arith;
    }
