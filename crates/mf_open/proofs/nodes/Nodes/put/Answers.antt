use Rattle.std.proofs.Common.{◌≡◌, ◌+◌, [], ◌∷◌, ◌++◌, length, sym, ap, ◌∙◌, arith}
use Rattle.std.proofs.lemmas.List.{length-set, length_push, get_or_read}
use Rattle.mf_open.specs.declared.nodes.Node.{Node}
use Rattle.mf_open.specs.Chains.{node_at}
use Rattle.mf_open.proofs.Places.{free_within, set_here, set_elsewhere, push_here, push_elsewhere, spare_taken, pushed_taken}
use Rattle.mf_open.proofs.nodes.Nodes.put.Goals as goal

pub returns-then-self-eq0 : goal.returns-then-self-eq0
returns-then-self-eq0 c =
    let ns = c.args.self.now.list.items in
    let v : Node = record { state = c.args.state; next = c.args.next } in
    let items : c.push_reserved.new.self.items ≡ ns ++ v ∷ [] = c.push_reserved.ensures.items in
    let at : c.len-at.result ≡ length ns = c.len-at.ensures ∙ c.args.self.now.list.ok.0 in
    let longer : length c.push_reserved.new.self.items ≡ length ns + 1 = ap length items ∙ length_push ns v in
    record {
      here = rw (items, at) (push_here ns v);
      elsewhere = λ p h. rw items (push_elsewhere ns v p (λ e. h (e ∙ sym at)));
      taken = λ p. rw (items, at) (pushed_taken ns c.args.self.now.free c.args.self.now.spare v c.if-self-eq0.true p);
      counted = omega arith;
      room = omega (arith, c.push_reserved.ensures.capacity, c.push_reserved.ensures.len, c.push_reserved.new.self.ok.0, c.push_reserved.new.self.ok.1, c.args.self.now.list.ok.0, c.args.self.now.list.ok.1);
    }

pub index-requires : goal.index-requires
index-requires c =
    let within = free_within (node_at c.args.self.now.list.items) c.args.self.now.spare c.args.self.now.free (length c.args.self.now.list.items) c.if-self-eq0.false (c.requires.apart c.args.self.now.free) in
    omega (arith, c.args.self.now.list.ok.0)

pub index_mut-requires : goal.index_mut-requires
index_mut-requires c =
    let within = free_within (node_at c.args.self.now.list.items) c.args.self.now.spare c.args.self.now.free (length c.args.self.now.list.items) c.if-self-eq0.false (c.requires.apart c.args.self.now.free) in
    omega (arith, c.args.self.now.list.ok.0)

pub returns : goal.returns
returns c =
    let old = c.args.self.now in
    let ns = old.list.items in
    let v : Node = record { state = c.args.state; next = c.args.next } in
    let within = free_within (node_at ns) old.spare old.free (length ns) c.if-self-eq0.false (c.requires.apart old.free) in
    let read : c.index.result.now ≡ node_at ns old.free = get_or_read ns old.free _ within c.index.ensures (record { state = 0; next = 0 }) in
    let long = length-set ns old.free v in
    record {
      here = set_here ns old.free v within;
      elsewhere = λ p h. set_elsewhere ns old.free v p h;
      taken = λ p. rw (ap (λ (x : Node). x.next) read) (spare_taken ns old.free old.spare v c.if-self-eq0.false c.requires.apart p);
      counted = let some = c.if-self-eq0.false in omega arith;
      room = let some = c.if-self-eq0.false in omega arith;
    }
