use Rattle.std.proofs.Common.{subst}
use Rattle.mf_permits.specs.Core.{Seen, TakeTells}
use Rattle.mf_permits.specs.Ledger.{seen_of}
use Rattle.mf_permits.proofs.permits.Core.take.Goals as goal

pub returns-clause-tells : goal.returns-clause-tells
returns-clause-tells g c = subst (λ (s : Seen). TakeTells g.N.Naming.case s (seen_of c.take_into.new.ledger) c.args.worker c.take_into.result) c.self.view_is c.take_into.ensures.tells
