use Rattle.std.proofs.Common.{refl}
use Rattle.mf_permits.proofs.BeginLaws.{keeps_begin}
use Rattle.mf_permits.proofs.beginning.begin.Goals as goal

pub returns-clause-kept : goal.returns-clause-kept
returns-clause-kept g c = keeps_begin g.N.Naming.case c.args.workers _ c.requires.low c.requires.high (record {
  tables = c.in_ok-tables.ensures.opened;
  whole = c.in_ok-tables.ensures.whole;
  busy = c.in_ok-busy.ensures;
  entries = c.in_ok-entries.ensures.items;
  room = c.in_ok-entries.ensures.capacity;
  takes = refl;
  end = refl;
  budget = c.requires.budget;
})
