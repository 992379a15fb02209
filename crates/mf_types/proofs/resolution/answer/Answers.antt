use Rattle.std.proofs.Common.{sym, ◌∙◌}
use Rattle.mf_types.specs.Tables.{declared_of}
use Rattle.mf_types.proofs.Resolving.{none_stands, names_first}
use Rattle.mf_types.proofs.resolution.answer.Goals as goal

pub returns-in-Some : goal.returns-in-Some
returns-in-Some c = names_first (declared_of c.args.tables.now) c.args.domain.now c.args.problem.now _ c.in-Some.fault c.requires.tables (sym c.in-Some.is ∙ c.in_ok-fault.ensures) c.named.ensures

pub faultless_task-requires-clause-clean : goal.faultless_task-requires-clause-clean
faultless_task-requires-clause-clean c = none_stands (declared_of c.args.tables.now) c.args.domain.now c.args.problem.now c.requires.tables (sym c.in-None.is ∙ c.in_ok-fault.ensures)
