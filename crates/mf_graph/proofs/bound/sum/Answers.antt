use Rattle.std.proofs.Common.{◌∙◌}
use Rattle.mf_graph.proofs.Numbers.{kept_is}
use Rattle.mf_graph.proofs.bound.sum.Goals as goal

pub returns : goal.returns
returns c = c.kept.ensures ∙ kept_is c.add.result _ c.add.ensures
