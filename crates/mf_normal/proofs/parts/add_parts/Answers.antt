use Rattle.std.proofs.lemmas.Result.{err_from_is_err_and}
use Rattle.mf_normal.proofs.PartLists.{add_fails, added_next}
use Rattle.mf_normal.proofs.parts.add_parts.Goals as goal

pub returns-in_err-add_part : goal.returns-in_err-add_part
returns-in_err-add_part c =
    let p = err_from_is_err_and c.from_residual.result c.from_residual.ensures.1 in
    rw (p.1, p.2) (add_fails c.args.parts.now c.loop-part.parts c.args.more.now c.loop-part.part-index c.part-item.result c.loop-part-test.true c.part-item.is c.loop-part.invariant.0 c.add_part.new.parts _ c.requires.more_rising c.in_err-add_part.ensures)

pub loop-part-preserved : goal.loop-part-preserved
loop-part-preserved c =
    added_next c.args.parts.now c.loop-part.parts c.args.more.now c.loop-part.part-index c.part-item.result c.loop-part-test.true c.part-item.is c.loop-part.invariant.0 c.add_part.new.parts c.loop-part.invariant.1 c.loop-part.invariant.2 c.requires.more_narrow c.in_ok-add_part.ensures
