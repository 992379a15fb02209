use Rattle.std.proofs.Common.{subst}
use Rattle.mf_search.specs.Answers.{IsStatus}
use Rattle.mf_permits.specs.Core.{Seen, world_of}
use Rattle.mf_permits.proofs.permits.Core.status.Goals as goal

pub returns-clause-status : goal.returns-clause-status
returns-clause-status g c = subst (λ (s : Seen). IsStatus g.N.Naming.case.budget (world_of g.N.Naming.case s) s.halted c.status.result) c.self.view_is c.status.ensures
