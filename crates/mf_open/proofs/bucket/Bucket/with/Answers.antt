use Rattle.std.proofs.Common.{◌≡◌, ℕ, ap, subst, arith}
use Rattle.mf_open.specs.declared.nodes.Node.{Node}
use Rattle.mf_open.specs.Chains.{node_at, Puts}
use Rattle.mf_open.proofs.Places.{once_self}
use Rattle.mf_open.proofs.Spots.{spot_in_run}
use Rattle.mf_open.proofs.Taking.{takes_front, takes_after}
use Rattle.mf_open.proofs.bucket.Bucket.with.Goals as goal
use Rattle.mf_open.proofs.bucket.Bucket.with.Goals.{then-before-self, else-before-self}

pub get-requires : goal.get-requires
get-requires c = let o = once_self c.args.self.first in omega (arith, c.requires.apart c.args.self.first)

pub returns-then-state-get-clause-takes : goal.returns-then-state-get-clause-takes
returns-then-state-get-clause-takes c =
    let old = c.args.nodes.now in
    let b = c.args.self in
    let read : c.get.result.state ≡ (node_at old.list.items b.first).state = ap (λ (x : Node). x.state) c.get.ensures in
    takes_front old c.put-first.new.self b c.args.state c.put-first.result c.put-first.ensures c.requires.apart c.requires.chain (omega (arith, read))

pub get-next-requires : goal.get-next-requires
get-next-requires c =
    let b = c.args.self in
    let held = spot_in_run (node_at c.args.nodes.now.list.items) b.more b.first c.args.state c.before-before.result c.before-before.ensures in
    omega (arith, c.requires.apart c.before-before.result)

pub link-requires : goal.link-requires
link-requires c =
    let b = c.args.self in
    let held = spot_in_run (node_at c.args.nodes.now.list.items) b.more b.first c.args.state c.before-before.result c.before-before.ensures in
    omega (arith, c.requires.apart c.before-before.result, c.put-at.ensures.taken c.before-before.result)

pub returns-clause-takes : goal.returns-clause-takes
returns-clause-takes c =
    let old = c.args.nodes.now in
    let b = c.args.self in
    let read : c.get-next.result.next ≡ (node_at old.list.items c.before-before.result).next = ap (λ (x : Node). x.next) c.get-next.ensures in
    let puts : Puts old c.put-at.new.self (record { state = c.args.state; next = (node_at old.list.items c.before-before.result).next }) c.put-at.result =
    subst (λ (x : ℕ). Puts old c.put-at.new.self (record { state = c.args.state; next = x }) c.put-at.result) read c.put-at.ensures in
    takes_after old c.put-at.new.self c.link.new.self b c.args.state c.before-before.result c.put-at.result c.if-before-self.result puts c.link.ensures c.requires.apart c.requires.chain c.requires.fresh c.before-before.ensures
    (λ e. elim c.if-before-self.branch [ then-before-self w ↦ w.result-is | else-before-self w ↦ absurd (w.if-before-self.false e) ])
    (λ h. elim c.if-before-self.branch [ then-before-self w ↦ absurd (h w.if-before-self.true) | else-before-self w ↦ w.result-is ])
