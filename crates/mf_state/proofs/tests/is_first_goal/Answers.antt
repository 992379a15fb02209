use Rattle.std.proofs.Common.{sym, ◌∙◌}
use Rattle.mf_task.specs.Rows.{sight_of}
use Rattle.mf_state.proofs.NarrowRows.{narrow_nowhere}
use Rattle.mf_state.proofs.tests.is_first_goal.Goals as goal

pub is_goal-requires : goal.is_goal-requires
is_goal-requires o c = narrow_nowhere c.args.task.now (sight_of c.in-Some.next.now.row) (sym c.wide_place.ensures ∙ c.in_default-wide_place.is)
