use Rattle.std.proofs.Common.{◌-◌, ◌+◌, ◌/◌, ℕ, arith}
use Rattle.mf_open.specs.Buckets.{group}
use Rattle.mf_open.proofs.Falling.{above_all, below_all}
use Rattle.mf_open.proofs.search.find.Goals as goal

pub loop-low-preserved-in-Greater : goal.loop-low-preserved-in-Greater
loop-low-preserved-in-Greater c =
    let middle : ℕ = c.loop-low.low + (c.loop-low.high - c.loop-low.low) / 2 in
    record {
      in_order = omega arith;
      within = omega arith;
      above = above_all c.args.buckets.now c.requires middle (group c.args.key.now.value c.args.key.now.plain) _ (omega arith) c.in-Greater.ensures;
      below = c.loop-low.invariant.below;
    }

pub loop-low-preserved : goal.loop-low-preserved
loop-low-preserved c =
    let middle : ℕ = c.loop-low.low + (c.loop-low.high - c.loop-low.low) / 2 in
    record {
      in_order = omega arith;
      within = omega arith;
      above = c.loop-low.invariant.above;
      below = below_all c.args.buckets.now c.requires middle (group c.args.key.now.value c.args.key.now.plain) _ (omega arith) c.in-Less.ensures;
    }
