use Rattle.std.proofs.Common.{◌≡◌, sym, ap, ◌∙◌, Some, arith}
use Rattle.mf_open.specs.declared.key.Key.{Key}
use Rattle.mf_open.specs.declared.nodes.Node.{Node}
use Rattle.mf_open.specs.declared.bucket.Bucket.{Bucket}
use Rattle.mf_open.specs.Chains.{node_at}
use Rattle.mf_open.specs.Buckets.{key_in}
use Rattle.mf_open.proofs.Grouping.{rising_keys}
use Rattle.mf_open.proofs.Leaving.{first_held, first_is, first_spare, left_none, left_more}
use Rattle.mf_open.proofs.steps.take.Goals as goal
use Rattle.mf_open.proofs.steps.take.Goals.{then-bucket-gt0, else-bucket-gt0}

pub get-node-requires : goal.get-node-requires
get-node-requires c = first_held c.args.nodes.now c.args.buckets.now.items c.pop.new.self.items c.in_ok-bucket.bucket c.in_ok-bucket.ensures.items c.requires

pub release-requires-clause-kept : goal.release-requires-clause-kept
release-requires-clause-kept c = first_held c.args.nodes.now c.args.buckets.now.items c.pop.new.self.items c.in_ok-bucket.bucket c.in_ok-bucket.ensures.items c.requires

pub release-requires-clause-room : goal.release-requires-clause-room
release-requires-clause-room c = first_spare c.args.nodes.now c.args.buckets.now.items c.pop.new.self.items c.in_ok-bucket.bucket c.in_ok-bucket.ensures.items c.requires

pub returns-clause-sound : goal.returns-clause-sound
returns-clause-sound c =
    let b : Bucket = c.in_ok-bucket.bucket in
    let next : c.get-node.result.next ≡ (node_at c.args.nodes.now.list.items b.first).next = ap (λ (n : Node). n.next) c.get-node.ensures in
    elim c.if-bucket-gt0.branch [
      | then-bucket-gt0 w ↦
          (left_more c.args.nodes.now c.release.new.self c.args.buckets.now.items c.if-bucket-gt0.buckets.items c.pop.new.self.items b c.get-node.result.next c.in_ok-bucket.ensures.items c.requires c.release.ensures next w.if-bucket-gt0.true
          (rw w.buckets-is w.push_reserved.ensures.items)).0
      | else-bucket-gt0 w ↦
          rw w.buckets-is (left_none c.args.nodes.now c.release.new.self c.args.buckets.now.items c.pop.new.self.items b c.in_ok-bucket.ensures.items c.requires c.release.ensures (omega (arith, w.if-bucket-gt0.false))).0
    ]

pub returns-clause-keys : goal.returns-clause-keys
returns-clause-keys c =
    let b : Bucket = c.in_ok-bucket.bucket in
    let next : c.get-node.result.next ≡ (node_at c.args.nodes.now.list.items b.first).next = ap (λ (n : Node). n.next) c.get-node.ensures in
    elim c.if-bucket-gt0.branch [
      | then-bucket-gt0 w ↦
          (left_more c.args.nodes.now c.release.new.self c.args.buckets.now.items c.if-bucket-gt0.buckets.items c.pop.new.self.items b c.get-node.result.next c.in_ok-bucket.ensures.items c.requires c.release.ensures next w.if-bucket-gt0.true
          (rw w.buckets-is w.push_reserved.ensures.items)).1
      | else-bucket-gt0 w ↦
          rw w.buckets-is (left_none c.args.nodes.now c.release.new.self c.args.buckets.now.items c.pop.new.self.items b c.in_ok-bucket.ensures.items c.requires c.release.ensures (omega (arith, w.if-bucket-gt0.false))).1
    ]

pub returns-clause-value : goal.returns-clause-value
returns-clause-value c =
    let b : Bucket = c.in_ok-bucket.bucket in
    ap (λ (k : Key). Some k) (c.key.ensures ∙ ap (λ (n : Node). key_in b n.state) c.get-node.ensures)
    ∙ sym (first_is (node_at c.args.nodes.now.list.items) c.args.buckets.now.items c.pop.new.self.items b c.in_ok-bucket.ensures.items)

pub returns-clause-rising : goal.returns-clause-rising
returns-clause-rising c = rising_keys (node_at c.args.nodes.now.list.items) c.args.buckets.now.items c.requires.chains c.requires.falls
