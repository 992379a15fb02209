use Rattle.std.proofs.Common.{sym, ◌∙◌}
use Rattle.mf_graph.proofs.Numbers.{zero_is, zero_is_not_wide}
use Rattle.mf_graph.proofs.bound.zero_number.Goals as goal

pub unreachable-requires : goal.unreachable-requires
unreachable-requires c = zero_is_not_wide c.in-Err.field-0 (sym c.whole.ensures ∙ c.in-Err.is)

pub returns : goal.returns
returns c = zero_is c.in-Ok.number (sym c.whole.ensures ∙ c.in-Ok.is)
