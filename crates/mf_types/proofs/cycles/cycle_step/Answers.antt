use Rattle.std.proofs.Common.{sym, ◌∙◌}
use Rattle.mf_types.specs.Tables.{declared_of}
use Rattle.mf_types.proofs.Settled.{item_settled}
use Rattle.mf_types.proofs.cycles.cycle_step.Goals as goal

pub returns-then-way-clause-settled : goal.returns-then-way-clause-settled
returns-then-way-clause-settled c =
    item_settled (declared_of c.args.tables.now) c.as_slice.result.now c.args.settled.now.keys c.settle.new.settled.keys c.args.item.now c.type_number-number.result c.way_up-way.result
    c.as_slice.ensures (sym c.says_nothing.ensures ∙ c.if-says_nothing.false) c.type_number-number.ensures c.way_up-way.ensures c.in_ok-settle.ensures

pub returns-clause-settled : goal.returns-clause-settled
returns-clause-settled c =
    item_settled (declared_of c.args.tables.now) c.as_slice.result.now c.args.settled.now.keys c.settle.new.settled.keys c.args.item.now c.type_number-number.result c.way_up-way.result
    c.as_slice.ensures (sym c.says_nothing.ensures ∙ c.if-says_nothing.false) c.type_number-number.ensures c.way_up-way.ensures c.in_ok-settle.ensures
