use Rattle.std.proofs.Common.{drop}
use Rattle.mf_types.specs.Tables.{declared_of}
use Rattle.mf_types.proofs.Settled.{IsUnderWay}
use Rattle.mf_types.proofs.cycles.cycles.Given as goal

abbrev pub invariant-loop-item : goal.invariant-loop-item
invariant-loop-item l = IsUnderWay (declared_of l.tables) l.items (drop l.item-index l.items) l.fn.best l.best l.settled.keys
