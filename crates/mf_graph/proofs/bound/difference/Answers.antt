use Rattle.std.proofs.Common.{◌∙◌}
use Rattle.mf_graph.proofs.Numbers.{kept_is}
use Rattle.mf_graph.proofs.bound.difference.Goals as goal

pub returns : goal.returns
returns c = c.kept.ensures ∙ kept_is c.sub.result _ c.sub.ensures
