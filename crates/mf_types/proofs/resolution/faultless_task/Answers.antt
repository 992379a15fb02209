use Rattle.mf_types.specs.Tables.{declared_of}
use Rattle.mf_types.proofs.Resolving.{narrow_tables, never_refused, resolved}
use Rattle.mf_types.proofs.resolution.faultless_task.Goals as goal

pub build-requires : goal.build-requires
build-requires c = record { narrow = narrow_tables (declared_of c.args.tables.now) c.args.domain.now c.args.problem.now c.requires.tables }

pub unreachable-requires : goal.unreachable-requires
unreachable-requires c = never_refused (declared_of c.args.tables.now) c.args.domain.now c.args.problem.now c.requires.tables c.requires.clean (rw c.in-Err-Refused.field-0-is at c.in-Err-Refused.ensures)

pub returns-in-Ok : goal.returns-in-Ok
returns-in-Ok c = resolved (declared_of c.args.tables.now) c.args.domain.now c.args.problem.now c.in-Ok.task c.requires.tables c.requires.clean c.in-Ok.ensures
