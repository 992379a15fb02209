use Rattle.std.proofs.Common.{length, ap, subst, sym, ◌∙◌}
use Rattle.mf_store.specs.Rows.{RowLists}
use Rattle.mf_task.specs.CaseRows.{IsNarrowRow}
use Rattle.mf_permits.proofs.TableLaws.{narrow_shape}
use Rattle.mf_permits.proofs.permits.Core.new.Goals as goal

pub invariant_of-result : goal.invariant_of-result
invariant_of-result g c =
    let shape = narrow_shape g.N.Naming.case c.row_of-row.result.now (subst (λ (row : RowLists). IsNarrowRow g.N.Naming.case row) (sym c.row_of-row.ensures.row) c.row_of-row.ensures.root.row_is) in
    record { keeps = c.in_ok-ledger.ensures.kept; words_are = ap length c.bits.ensures ∙ shape.words; values_are = ap length c.values.ensures ∙ shape.values }
