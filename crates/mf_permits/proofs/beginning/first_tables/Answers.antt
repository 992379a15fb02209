use Rattle.std.proofs.Common.{subst, sym}
use Rattle.mf_store.specs.Rows.{RowLists}
use Rattle.mf_task.specs.CaseRows.{IsNarrowRow}
use Rattle.mf_permits.proofs.BeginLaws.{empty_whole}
use Rattle.mf_permits.proofs.TableLaws.{narrow_shape}
use Rattle.mf_permits.proofs.beginning.first_tables.Goals as goal

pub open_start-requires-clause-whole : goal.open_start-requires-clause-whole
open_start-requires-clause-whole g c =
    let shape = narrow_shape g.N.Naming.case c.row_of-row.result.now (subst (λ (row : RowLists). IsNarrowRow g.N.Naming.case row) (sym c.row_of-row.ensures.row) c.row_of-row.ensures.root.row_is) in
    empty_whole g.N.Naming.case c.row_of-row.result.now c.empty_tables-tables.result shape (record {
      words = c.empty_tables-tables.ensures.words;
      values_count = c.empty_tables-tables.ensures.values_count;
      rows = c.empty_tables-tables.ensures.rows;
      values = c.empty_tables-tables.ensures.values;
      makers = c.empty_tables-tables.ensures.makers;
      keys = c.empty_tables-tables.ensures.keys;
    })

pub returns-in-Infinite-clause-whole : goal.returns-in-Infinite-clause-whole
returns-in-Infinite-clause-whole g c =
    let shape = narrow_shape g.N.Naming.case c.row_of-row.result.now (subst (λ (row : RowLists). IsNarrowRow g.N.Naming.case row) (sym c.row_of-row.ensures.row) c.row_of-row.ensures.root.row_is) in
    empty_whole g.N.Naming.case c.row_of-row.result.now c.empty_tables-tables.result shape (record {
      words = c.empty_tables-tables.ensures.words;
      values_count = c.empty_tables-tables.ensures.values_count;
      rows = c.empty_tables-tables.ensures.rows;
      values = c.empty_tables-tables.ensures.values;
      makers = c.empty_tables-tables.ensures.makers;
      keys = c.empty_tables-tables.ensures.keys;
    })
