use Rattle.std.proofs.lemmas.Result.{err_from_is_err_and}
use Rattle.mf_normal.specs.FormsMade.{join_of, unit_of}
use Rattle.mf_normal.specs.Lookups.{functions_seen}
use Rattle.mf_normal.proofs.Forms.{first_fails, function_arm, join_fails, join_next, next_fails, product_arm, sum_arm}
use Rattle.mf_normal.proofs.form.+form.Goals as goal

pub fold-returns-in_err-front : goal.fold-returns-in_err-front
fold-returns-in_err-front t c =
    let p = err_from_is_err_and c.from_residual.result c.from_residual.ensures.1 in
    rw (p.1, p.2) (first_fails (join_of c.args.operation) (functions_seen c.args.lookup.now) c.args.binding.now (unit_of c.args.operation) c.in-Some.first.now c.in-Some.others.now c.args.parts.now _ c.in-Some.ensures.cases.0 c.in_err-front.ensures)

pub fold-returns-in_err-next : goal.fold-returns-in_err-next
fold-returns-in_err-next t c =
    let p = err_from_is_err_and c.from_residual-in_err-next.result c.from_residual-in_err-next.ensures.1 in
    rw (p.1, p.2) (next_fails (join_of c.args.operation) (functions_seen c.args.lookup.now) c.args.binding.now _ c.loop-part.front c.in-Some.others.now c.loop-part.part-index c.part-item.result c.loop-part-test.true c.part-item.is c.loop-part.invariant.0 _ c.in_err-next.ensures)

pub fold-returns-in_err-front-2 : goal.fold-returns-in_err-front-2
fold-returns-in_err-front-2 t c =
    let p = err_from_is_err_and c.from_residual-in_err-front-2.result c.from_residual-in_err-front-2.ensures.1 in
    rw (p.1, p.2) (join_fails (join_of c.args.operation) (functions_seen c.args.lookup.now) c.args.binding.now _ c.loop-part.front c.in-Some.others.now c.loop-part.part-index c.part-item.result c.loop-part-test.true c.part-item.is c.loop-part.invariant.0 c.in_ok-next.next _ c.in_ok-next.ensures c.in_err-front-2.ensures)

pub fold-loop-part-preserved : goal.fold-loop-part-preserved
fold-loop-part-preserved t c =
    join_next (join_of c.args.operation) (functions_seen c.args.lookup.now) c.args.binding.now _ c.loop-part.front c.in-Some.others.now c.loop-part.part-index c.part-item.result c.loop-part-test.true c.part-item.is c.loop-part.invariant.0 c.in_ok-next.next c.in_ok-front-2.front c.in_ok-next.ensures c.in_ok-front-2.ensures

pub form-returns-in-Function : goal.form-returns-in-Function
form-returns-in-Function t c =
    function_arm (functions_seen c.args.lookup.now) c.args.binding.now c.args.expression.now c.in-Function.function c.in-Function.terms c.as_slice.result.now c.form_of_function.result c.in-Function.is c.as_slice.ensures c.form_of_function.ensures

pub form-returns-in-Sum : goal.form-returns-in-Sum
form-returns-in-Sum t c =
    sum_arm (functions_seen c.args.lookup.now) c.args.binding.now c.args.expression.now c.in-Sum.parts c.as_slice-in-Sum.result.now c.fold.result c.in-Sum.is c.as_slice-in-Sum.ensures c.fold.ensures

pub form-returns-in-Product : goal.form-returns-in-Product
form-returns-in-Product t c =
    product_arm (functions_seen c.args.lookup.now) c.args.binding.now c.args.expression.now c.in-Product.parts c.as_slice-in-Product.result.now c.fold-in-Product.result c.in-Product.is c.as_slice-in-Product.ensures c.fold-in-Product.ensures
