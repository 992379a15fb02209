use Rattle.std.proofs.Common.{◌≡◌, ◌<◌, ◌+◌, ◌-◌, ℕ, length, subst, arith}
use Rattle.mf_permits.specs.Tables.{HasRoom}
use Rattle.mf_permits.proofs.TableLaws.{children_more}
use Rattle.mf_permits.proofs.opening.open_children.Goals as goal

pub loop-child-preserved : goal.loop-child-preserved
loop-child-preserved g c =
    let low : c.loop-child.child-index < length c.args.children.now = c.loop-child-test.true in
    let fewer : length c.args.children.now - c.loop-child.child-index ≡ length c.args.children.now - (c.loop-child.child-index + 1) + 1 = omega arith in
    record {
      whole = c.open_child.ensures.whole;
      room = c.open_child.ensures.room _ (subst (λ (n : ℕ). HasRoom n c.loop-child.tables) fewer c.loop-child.invariant.room);
      opened = children_more g.N.Naming.case c.args.parent c.args.children.now c.loop-child.child-index c.child-item.result c.args.tables.now c.loop-child.tables c.open_child.new.tables low c.child-item.is c.loop-child.invariant.opened c.open_child.ensures.opened;
    }
