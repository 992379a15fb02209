use Rattle.std.proofs.Common.{◌≡◌, length, refl, ap, ◌∙◌, arith}
use Rattle.std.proofs.lemmas.List.{length-set, get_or_read}
use Rattle.mf_open.specs.declared.nodes.Node.{Node}
use Rattle.mf_open.specs.Chains.{node_at}
use Rattle.mf_open.proofs.Places.{within_from_past, set_here, set_elsewhere, free_kept}
use Rattle.mf_open.proofs.nodes.Nodes.link.Goals as goal

pub index_mut-requires : goal.index_mut-requires
index_mut-requires c =
    let within = within_from_past (length c.args.self.now.list.items) c.args.at (omega arith) in
    omega (arith, c.args.self.now.list.ok.0)

pub returns : goal.returns
returns c =
    let ns = c.args.self.now.list.items in
    let within = within_from_past (length ns) c.args.at (omega arith) in
    let read : c.index_mut.result.now ≡ node_at ns c.args.at = get_or_read ns c.args.at _ within c.index_mut.ensures.value (record { state = 0; next = 0 }) in
    record {
      here = set_here ns c.args.at _ within ∙ ap (λ (x : Node). record { state = x.state; next = c.args.next }) read;
      elsewhere = λ p h. set_elsewhere ns c.args.at _ p h;
      kept = λ p. free_kept ns c.args.self.now.free c.args.self.now.spare c.args.at _ (omega arith) p;
      counted = (refl, length-set ns c.args.at _);
      room = let n = length-set ns c.args.at (record { state = c.index_mut.result.now.state; next = c.args.next }) in omega arith;
    }
