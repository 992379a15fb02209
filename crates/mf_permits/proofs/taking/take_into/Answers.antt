use Rattle.std.proofs.Common.{◌<◌, List, length, subst, sym}
use Rattle.mf_model.specs.declared.state.PlainState.{PlainState}
use Rattle.mf_search.specs.World.{Opened}
use Rattle.mf_permits.specs.Ledger.{seen_of}
use Rattle.mf_permits.proofs.ReadLaws.{row_before, same_opened}
use Rattle.mf_permits.proofs.taking.take_into.Goals as goal

pub write_row-requires-clause-opened : goal.write_row-requires-clause-opened
write_row-requires-clause-opened g c =
    subst (λ (os : List (Opened PlainState)). c.in-Go.state < length os) (sym (same_opened g.N.Naming.case (seen_of c.args.ledger.now) (seen_of c.take.new.ledger) c.args.worker c.in-Go.state c.in-Go.ensures.tells.after))
    c.in-Go.ensures.tells.answers.1.is_open.0

pub returns-in-Go-clause-row : goal.returns-in-Go-clause-row
returns-in-Go-clause-row g c = row_before g.N.Naming.case (seen_of c.args.ledger.now) (seen_of c.take.new.ledger) c.args.worker c.in-Go.state c.write_row.new.into c.in-Go.ensures.tells.after c.write_row.ensures
