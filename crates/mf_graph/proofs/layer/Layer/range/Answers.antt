use Rattle.std.proofs.Common.{None, ap, sym, ◌∙◌}
use Rattle.std.specs.Option.{option_copied}
use Rattle.mf_graph.proofs.Lists.{get_or_none}
use Rattle.mf_graph.proofs.layer.Layer.range.Goals as goal

pub returns-in-None : goal.returns-in-None
returns-in-None c = get_or_none c.args.self.now.ranges c.args.term None (sym c.get.ensures.value ∙ ap option_copied c.in-None.is)
