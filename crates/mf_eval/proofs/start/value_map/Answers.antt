use Rattle.std.proofs.Common.{◌∙◌, ap, map}
use Rattle.mf_model.specs.States.{with_value}
use Rattle.mf_eval.specs.Entries.{as_valued}
use Rattle.mf_eval.proofs.Sorting.{fold_next, with_value_insert}
use Rattle.mf_eval.proofs.start.value_map.Goals as goal

pub loop-valued-preserved : goal.loop-valued-preserved
loop-valued-preserved c =
    let before = c.loop-valued.values.entries in
    let item = c.valued-item.result in
    let added =
    ap (map as_valued) c.in_ok-insert.ensures.entries
    ∙ with_value_insert before c.in_ok-copy.field-0 item.value
    ∙ ap (λ cell. with_value (map as_valued before) (as_valued (cell, item.value))) c.in_ok-copy.ensures in
    fold_next with_value (map as_valued before) _ c.args.listed.now c.loop-valued.valued-index item c.loop-valued-test.true c.valued-item.is added
    ∙ c.loop-valued.invariant
