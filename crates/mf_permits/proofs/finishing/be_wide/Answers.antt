use Rattle.std.proofs.Common.{refl}
use Rattle.mf_permits.proofs.FinishLaws.{keeps_wide}
use Rattle.mf_permits.proofs.finishing.be_wide.Goals as goal

pub returns-clause-kept : goal.returns-clause-kept
returns-clause-kept g c = keeps_wide g.N.Naming.case c.args.worker c.args.state c.args.instance c.args.ledger.now _ c.requires.kept c.requires.may (record {
  tables = refl;
  entries = c.push_reserved.ensures.items;
  busy = refl;
  takes = refl;
  end = refl;
  budget = refl;
})
