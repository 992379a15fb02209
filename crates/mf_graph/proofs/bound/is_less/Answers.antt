use Rattle.mf_graph.proofs.Signs.{is_Less, is_Equal, is_Greater}
use Rattle.mf_graph.proofs.bound.is_less.Goals as goal

pub returns-in-Less : goal.returns-in-Less
returns-in-Less c = is_Less c.args.a c.args.b c.cmp.result c.cmp.ensures.order c.in-Less.is

pub returns-in-Equal : goal.returns-in-Equal
returns-in-Equal c = is_Equal c.args.a c.args.b c.cmp.result c.cmp.ensures.order c.in-Equal.is

pub returns-in-Greater : goal.returns-in-Greater
returns-in-Greater c = is_Greater c.args.a c.args.b c.cmp.result c.cmp.ensures.order c.in-Greater.is
