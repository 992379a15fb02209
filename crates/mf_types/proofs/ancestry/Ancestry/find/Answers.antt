use Rattle.std.proofs.Common.{sym, ◌∙◌}
use Rattle.std.proofs.lemmas.Bool.{OnTrue_at}
use Rattle.mf_types.proofs.Depths.{descends_by_depth, descends_in_tree}
use Rattle.mf_types.proofs.ancestry.Ancestry.find.Goals as goal
use Rattle.mf_types.proofs.ancestry.Ancestry.find.Goals.{then-climbs-via-then-climbs, then-climbs-via-else-climbs+then-goes_round}

pub returns-then-from-eq0 : goal.returns-then-from-eq0
returns-then-from-eq0 c =
    c.climbs_to-climbs.ensures
    ∙ descends_by_depth c.args.self.now c.args.own c.args.other c.in_ok-from.from c.in_ok-to.to c.in_ok-from.ensures c.in_ok-to.ensures c.if-from-eq0.true (sym c.if-from-to.false ∙ c.if-from-eq0.true)

pub returns-then-climbs : goal.returns-then-climbs
returns-then-climbs c = elim c.then-climbs.branch [
  | then-climbs-via-then-climbs w ↦ sym (descends_in_tree c.args.self.now c.args.own c.args.other c.in_ok-from.from c.in_ok-to.to c.in_ok-from.ensures (sym c.climbs_to-climbs.ensures ∙ w.if-climbs.true))
  | then-climbs-via-else-climbs+then-goes_round w ↦ sym (OnTrue_at w.if-goes_round.true w.goes_round.ensures)
]
