use Rattle.std.proofs.Common.{◌-◌, ◌<◌, length, arith, ap, sym, ◌∙◌}
use Rattle.std.proofs.lemmas.Bool.{OnTrue_from}
use Rattle.std.specs.Bool.{IsTrue}
use Rattle.mf_types.specs.BelowTop.{descends}
use Rattle.mf_types.proofs.Depths.{descends_round}
use Rattle.mf_types.proofs.ancestry.Ancestry.goes_round.Goals as goal

pub returns-then-saturating_sub-left : goal.returns-then-saturating_sub-left
returns-then-saturating_sub-left c =
    let parents = c.args.self.now in
    let from = c.args.from in
    let around = c.in-Some.around in
    let count = ap length c.as_slice.ensures in
    let steps = c.saturating_sub.ensures in
    let few = c.if-saturating_sub-left.true in
    let left : around.depth - c.args.to.depth < length parents - from.depth - 1 = omega (arith, count, steps, few) in
    OnTrue_from c.climbs_to.result (IsTrue (descends parents c.args.own c.args.other))
    (λ yes. descends_round parents c.args.own c.args.other c.parent-last.result from around c.args.to c.requires.place c.parent-last.ensures c.in-Some.ensures c.requires.root left (sym c.climbs_to.ensures ∙ yes))
