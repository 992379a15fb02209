use Rattle.std.proofs.Common.{sym, ◌∙◌}
use Rattle.mf_task.specs.Rows.{sight_of}
use Rattle.mf_state.proofs.NarrowRows.{narrow_nowhere}
use Rattle.mf_state.proofs.tests.step.Goals as goal

pub successors-requires-clause-narrow : goal.successors-requires-clause-narrow
successors-requires-clause-narrow o c = narrow_nowhere c.args.task.now (sight_of c.args.row.now) (sym c.wide_place.ensures ∙ c.in_default.is)
