use Rattle.std.proofs.Common.{◌∙◌}
use Rattle.std.proofs.lemmas.Result.{err_from_is_err_and}
use Rattle.mf_normal.proofs.PartLists.{scaled_end, scaled_more, scaled_wide}
use Rattle.mf_normal.proofs.parts.scaled_parts.Goals as goal

pub returns-in_err-coefficient : goal.returns-in_err-coefficient
returns-in_err-coefficient c =
    let p = err_from_is_err_and c.from_residual.result c.from_residual.ensures.1 in
    rw (p.1, p.2) (scaled_wide c.args.factor c.args.parts.now c.loop-part.part-index c.part-item.result _ c.mul.result c.loop-part-test.true c.part-item.is c.loop-part.invariant.1 c.mul.ensures c.in_err-coefficient.was)

pub loop-part-preserved : goal.loop-part-preserved
loop-part-preserved c =
    let more = scaled_more c.args.factor c.args.parts.now c.loop-part.part-index c.part-item.result c.in_ok-coefficient.coefficient c.mul.result c.loop-part.scaled c.loop-part-test.true c.part-item.is c.loop-part.invariant.0 c.loop-part.invariant.1 c.mul.ensures c.in_ok-coefficient.was in
    (c.in_ok-push.ensures.ok ∙ more.0, more.1)

pub returns : goal.returns
returns c = scaled_end c.args.factor c.args.parts.now c.loop-part.part-index c.loop-part.scaled c.loop-part-test.false c.loop-part.invariant.0 c.loop-part.invariant.1 c.requires
