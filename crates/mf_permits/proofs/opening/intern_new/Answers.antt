use Rattle.mf_permits.proofs.TableLaws.{unknown_row}
use Rattle.mf_permits.proofs.opening.intern_new.Goals as goal

pub returns : goal.returns
returns c =
    let found = unknown_row c.args.store.now c.intern.new.self c.args.row.now c.in-Ok.number c.in-Ok._is_new c.in-Ok.ensures.ok c.requires.is_new in
    record { number = found.0; added = found.1 }
