use Rattle.std.proofs.Common.{true, false}
use Rattle.mf_normal.proofs.PartLists.{placed_there}
use Rattle.mf_normal.proofs.parts.place_of.Goals as goal

pub returns-then-part-other-2 : goal.returns-then-part-other-2
returns-then-part-other-2 c =
    placed_there c.args.parts.now c.loop-at.at c.index-parts-at.result c.args.part.now c.loop-at-test.true c.index-parts-at.is c.if-part-other.false c.if-part-other-2.true c.loop-at.invariant
