use Rattle.std.proofs.Common.{refl}
use Rattle.mf_permits.proofs.FinishLaws.{keeps_done}
use Rattle.mf_permits.proofs.finishing.be_done.Goals as goal

pub returns-clause-kept : goal.returns-clause-kept
returns-clause-kept g c = keeps_done g.N.Naming.case c.args.worker c.args.state c.args.children.now c.args.ledger.now _ c.requires.kept c.requires.may c.requires.low c.requires.high c.requires.listed c.requires.entries (record {
  opened = c.open_children.ensures.opened;
  whole = c.open_children.ensures.whole;
  entries = c.push_reserved.ensures.items;
  capacity = c.push_reserved.ensures.capacity;
  busy = refl;
  takes = refl;
  end = refl;
  budget = refl;
})
