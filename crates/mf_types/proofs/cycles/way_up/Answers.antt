use Rattle.std.proofs.lemmas.Bool.{OnTrue_at}
use Rattle.mf_types.proofs.Settled.{climb_spared}
use Rattle.mf_types.proofs.cycles.way_up.Goals as goal

pub returns-then-is_on_no_cycle : goal.returns-then-is_on_no_cycle
returns-then-is_on_no_cycle c = λ before settles. climb_spared c.args.ancestry.now before c.args.from (OnTrue_at c.if-is_on_no_cycle.true c.is_on_no_cycle.ensures)
