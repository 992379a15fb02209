use Rattle.std.proofs.Common.{arith, rules}
use Rattle.mf_types.specs.Tables.{declared_of}
use Rattle.mf_types.proofs.Settled.{way_begins, way_goes_on, way_ends}
use Rattle.mf_types.proofs.cycles.cycles.Goals as goal

pub loop-item-init : goal.loop-item-init
loop-item-init c = way_begins (declared_of c.args.tables.now) c.args.items.now c.args.best c.new-settled.result.keys (search rules)

pub loop-item-preserved : goal.loop-item-preserved
loop-item-preserved c =
    way_goes_on (declared_of c.args.tables.now) c.args.items.now c.loop-item.item-index c.item-item.result c.args.best c.loop-item.best c.in_ok-best.best c.loop-item.settled.keys c.cycle_step.new.settled.keys
    c.loop-item-test.true c.item-item.is c.loop-item.invariant c.in_ok-best.ensures.faults c.in_ok-best.ensures.settled

pub returns : goal.returns
returns c = way_ends (declared_of c.args.tables.now) c.args.items.now c.loop-item.item-index c.args.best c.loop-item.best c.loop-item.settled.keys (omega arith) c.loop-item.invariant
