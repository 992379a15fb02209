use Rattle.std.proofs.Common.{rules, Ok, Err}
use Rattle.mf_model.specs.Views.{objects_of}
use Rattle.mf_eval.specs.Comparisons.{key_cmp}
use Rattle.mf_eval.proofs.Placing.{value_found, value_missing}
use Rattle.mf_eval.proofs.Searching.{searched_by}
use Rattle.mf_eval.proofs.stored.value_of_term.Goals as goal

pub returns-in-Ok : goal.returns-in-Ok
returns-in-Ok c =
    let values = c.args.values.now in
    let function = c.args.function in
    let objects = objects_of c.args.binding.now c.args.terms.now in
    value_found values function objects c.in-Ok.at c.requires c.index-values-at.result c.in-Ok.ensures.bound
    (searched_by (λ w. key_cmp w.cell.function w.cell.objects function objects) values (Ok c.in-Ok.at) c.in-Ok.ensures.position (λ a o f' k. search rules))
    c.index-values-at.is

pub returns-in-Err : goal.returns-in-Err
returns-in-Err c =
    let values = c.args.values.now in
    let function = c.args.function in
    let objects = objects_of c.args.binding.now c.args.terms.now in
    value_missing values function objects c.in-Err.field-0 c.requires c.in-Err.ensures.bound
    (searched_by (λ w. key_cmp w.cell.function w.cell.objects function objects) values (Err c.in-Err.field-0) c.in-Err.ensures.position (λ a o f' k. search rules))
