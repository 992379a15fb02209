use Rattle.std.proofs.Common.{◌+◌, ◌-◌, arith, ◌∙◌, length, map}
use Rattle.mf_model.proofs.Ancestors.{member-ancestors_more}
use Rattle.mf_model.proofs.descent.descends.Goals as goal

pub loop-step-preserved : goal.loop-step-preserved
loop-step-preserved g c =
    let parents = map g.Row.HasParent.parent_number c.args.types.now in
    let n = length c.args.types.now in
    let i = c.loop-step._step in
    member-ancestors_more parents (n - (i + 1)) (n - i) c.loop-step.current c.args.wanted c.parent_of-current.result (omega arith) c.if-current-wanted.false c.if-current-eq0.false c.parent_of-current.ensures
    ∙ c.loop-step.invariant
