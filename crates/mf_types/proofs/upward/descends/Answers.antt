use Rattle.std.proofs.Common.{◌+◌, ◌-◌, arith, ◌∙◌, length}
use Rattle.mf_types.proofs.PastTop.{upward_more}
use Rattle.mf_types.proofs.upward.descends.Goals as goal

pub loop-step-preserved : goal.loop-step-preserved
loop-step-preserved c =
    let parents = c.args.parents.now in
    let n = length parents in
    let i = c.loop-step._step in
    upward_more parents (n - (i + 1)) (n - i) c.loop-step.current c.args.wanted c.number_at-current.result (omega arith) c.if-current-wanted.false c.number_at-current.ensures
    ∙ c.loop-step.invariant
