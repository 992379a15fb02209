use Rattle.std.proofs.Common.{refl}
use Rattle.mf_permits.proofs.FinishLaws.{keeps_same}
use Rattle.mf_permits.proofs.reserving.make_room.Goals as goal

pub returns-in_err-reserve_states-clause-kept : goal.returns-in_err-reserve_states-clause-kept
returns-in_err-reserve_states-clause-kept g c = keeps_same g.N.Naming.case c.args.ledger.now _ (record {
  tables = c.reserve_states.ensures.same;
  entries = c.reserve.ensures.items;
  capacity = c.reserve.ensures.capacity;
  busy = refl;
  takes = refl;
  end = refl;
  budget = refl;
}) c.requires.kept

pub returns-clause-kept : goal.returns-clause-kept
returns-clause-kept g c = keeps_same g.N.Naming.case c.args.ledger.now _ (record {
  tables = c.reserve_states.ensures.same;
  entries = c.reserve.ensures.items;
  capacity = c.reserve.ensures.capacity;
  busy = refl;
  takes = refl;
  end = refl;
  budget = refl;
}) c.requires.kept
