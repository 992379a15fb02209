use Rattle.std.proofs.Common.{◌++◌, ◌∷◌, [], List, take, sym, ap, ◌∙◌}
use Rattle.std.proofs.lemmas.List.{take_more}
use Rattle.std.proofs.lemmas.Option.{get_or_from_slice_get, slice_get_within}
use Rattle.mf_store.specs.Rows.{RowLists}
use Rattle.mf_permits.proofs.history.all_rows.Goals as goal

pub loop-number-preserved : goal.loop-number-preserved
loop-number-preserved c =
    let low = slice_get_within c.args.store.now.rows c.loop-number.number c.in_ok-row.row c.in_ok-row.ensures in
    c.in_ok-push.ensures.ok ∙ ap (λ (rows : List RowLists). rows ++ c.in_ok-row.row ∷ []) c.loop-number.invariant
    ∙ ap (λ (row : RowLists). take c.loop-number.number c.args.store.now.rows ++ row ∷ []) (sym (get_or_from_slice_get c.args.store.now.rows c.loop-number.number c.in_ok-row.row c.in_ok-row.row c.in_ok-row.ensures))
    ∙ sym (take_more c.args.store.now.rows c.loop-number.number c.in_ok-row.row low)
