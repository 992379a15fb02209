use Rattle.std.proofs.Common.{sym, ◌∙◌}
use Rattle.mf_graph.proofs.Numbers.{one_is, one_is_not_wide}
use Rattle.mf_graph.proofs.counting.one.Goals as goal

pub unreachable-requires : goal.unreachable-requires
unreachable-requires c = one_is_not_wide c.in-Err.field-0 (sym c.whole.ensures ∙ c.in-Err.is)

pub returns : goal.returns
returns c = one_is c.in-Ok.number (sym c.whole.ensures ∙ c.in-Ok.is)
