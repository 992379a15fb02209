use Rattle.std.proofs.Common.{◌∙◌, ap, sym}
use Rattle.mf_store.specs.Rows.{RowLists}
use Rattle.mf_task.specs.Rows.{sight_of}
use Rattle.mf_task.specs.Width.{is_narrow}
use Rattle.mf_state.proofs.NarrowRows.{narrow_nowhere}
use Rattle.mf_state.proofs.first_row.start.Goals as goal

pub returns-in-Ok-clause-narrow : goal.returns-in-Ok-clause-narrow
returns-in-Ok-clause-narrow c =
    ap (λ (row : RowLists). is_narrow c.args.task.now (sight_of row)) c.in-Ok.ensures
    ∙ narrow_nowhere c.args.task.now (sight_of c.args.task.now.start) (sym c.wide_place.ensures ∙ c.in_default.is)
