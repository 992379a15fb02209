use Rattle.mf_graph.proofs.Inverses.{inverse_ok, inverse_zero, inverse_wide}
use Rattle.mf_graph.proofs.counting.inverse_of.Goals as goal

pub unreachable-requires : goal.unreachable-requires
unreachable-requires c =
    inverse_wide c.one.result c.args.a c.div.result c.one.ensures c.div.ensures c.in-Err-Wide.field-0 c.stored_laws.ensures.narrow c.in-Err-Wide.is c.in-Err-Wide.field-0-is

pub returns-in-Ok : goal.returns-in-Ok
returns-in-Ok c = inverse_ok c.one.result c.args.a c.div.result c.one.ensures c.div.ensures c.in-Ok.quotient c.in-Ok.is

pub returns-in-Err-ZeroDivisor : goal.returns-in-Err-ZeroDivisor
returns-in-Err-ZeroDivisor c =
    inverse_zero c.one.result c.args.a c.div.result c.one.ensures c.div.ensures c.in-Err-ZeroDivisor.field-0 c.in-Err-ZeroDivisor.is c.in-Err-ZeroDivisor.field-0-is
