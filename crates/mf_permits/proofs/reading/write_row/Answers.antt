use Rattle.mf_permits.proofs.ReadLaws.{row_is_at}
use Rattle.mf_permits.proofs.reading.write_row.Goals as goal

pub returns : goal.returns
returns g c = row_is_at g.N.Naming.case c.args.ledger.now c.args.state c.read.new.into c.requires.kept c.read.ensures
