use Rattle.std.proofs.Common.{FitsSigned, rules}
use Rattle.std.specs.Int.{w128}
use Rattle.mf_fraction.proofs.Operations.{new_zero, new_long, checked_ok, checked_wide}
use Rattle.mf_fraction.proofs.fraction.Frac.new.Goals as goal

pub returns-then-d-eq0 : goal.returns-then-d-eq0
returns-then-d-eq0 c = new_zero c.args.n c.args.d c.ranges.d c.if-d-eq0.true

pub returns-in-Ok : goal.returns-in-Ok
returns-in-Ok c =
    let f : FitsSigned w128 c.turned-top.result = search rules in
    checked_ok _ _ _ (new_long c.args.n c.args.d c.from.result c.turned-top.result c.unsigned_abs.result c.from-2.result c.ranges.n c.ranges.d c.if-d-eq0.false c.from.ensures c.unsigned_abs.ensures.value c.from-2.ensures f c.turned-top.ensures) c.in-Ok.ensures

pub returns-in-Err : goal.returns-in-Err
returns-in-Err c =
    let f : FitsSigned w128 c.turned-top.result = search rules in
    checked_wide _ _ _ (new_long c.args.n c.args.d c.from.result c.turned-top.result c.unsigned_abs.result c.from-2.result c.ranges.n c.ranges.d c.if-d-eq0.false c.from.ensures c.unsigned_abs.ensures.value c.from-2.ensures f c.turned-top.ensures) c.in-Err.ensures
