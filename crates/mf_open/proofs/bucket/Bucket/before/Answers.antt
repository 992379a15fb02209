use Rattle.std.proofs.Common.{◌≡◌, ◌-◌, ◌+◌, ◌<◌, ℕ, suc, ap, subst, arith}
use Rattle.mf_open.specs.declared.nodes.Node.{Node}
use Rattle.mf_open.specs.Chains.{node_at, run, times, IsSpot}
use Rattle.mf_open.proofs.Places.{once_self}
use Rattle.mf_open.proofs.Spots.{Walks, later_in_run, spot_last}
use Rattle.mf_open.proofs.bucket.Bucket.before.Goals as goal

pub get-requires : goal.get-requires
get-requires c =
    let bucket = c.args.self.now in
    let f = node_at c.args.nodes.now.list.items in
    let held = later_in_run f bucket.more bucket.first in
    rw c.requires.chain.last (omega (arith, c.requires.apart (Rattle.mf_open.specs.Chains.later f bucket.more bucket.first)))

pub returns-then-get-state : goal.returns-then-get-state
returns-then-get-state c =
    let bucket = c.args.self.now in
    let f = node_at c.args.nodes.now.list.items in
    let read : c.get.result.state ≡ (f bucket.last).state = ap (λ (x : Node). x.state) c.get.ensures in
    let last = c.requires.chain.last in
    rw last (spot_last f bucket.more bucket.first c.args.state c.requires.chain.rises (subst (λ (x : ℕ). (f x).state < c.args.state) last (omega (arith, read))))

pub get-next-requires : goal.get-next-requires
get-next-requires c =
    let at = c.loop-passed.at in
    let o = once_self at in
    omega (arith, c.loop-passed.invariant.within at, c.requires.apart at)

pub get-requires-in-loop-passed : goal.get-requires-in-loop-passed
get-requires-in-loop-passed c =
    let f = node_at c.args.nodes.now.list.items in
    let at = c.loop-passed.at in
    let next = (f at).next in
    let left : c.args.self.now.more - c.loop-passed.passed ≡ suc (c.args.self.now.more - (c.loop-passed.passed + 1)) = omega arith in
    let walk = subst (λ (m : ℕ). Walks f c.args.self.now.more c.args.self.now.first c.args.state m at) left c.loop-passed.invariant in
    let read : c.get-next.result.next ≡ next = ap (λ (x : Node). x.next) c.get-next.ensures in
    let o = once_self next in
    rw read (omega (arith, walk.within next, c.requires.apart next))
