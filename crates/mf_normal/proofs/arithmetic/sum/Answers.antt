use Rattle.std.proofs.lemmas.Result.{err_from_is_err_and}
use Rattle.mf_fraction.specs.Exact.{sum_of}
use Rattle.mf_task.specs.LinearForms.{with_parts}
use Rattle.mf_normal.proofs.Forms.{constant_wide, form_made_of}
use Rattle.mf_normal.proofs.arithmetic.sum.Goals as goal

pub returns-in_err-constant : goal.returns-in_err-constant
returns-in_err-constant c =
    let p = err_from_is_err_and c.from_residual.result c.from_residual.ensures.1 in
    rw (p.1, p.2) (constant_wide (sum_of c.args.left.constant c.args.right.now.constant) (with_parts c.args.left.parts c.args.right.now.parts) _ c.add.result c.add.ensures c.in_err-constant.was)

pub returns : goal.returns
returns c =
    form_made_of (with_parts c.args.left.parts) c.in_ok-constant.constant (sum_of c.args.left.constant c.args.right.now.constant) c.add_parts.new.parts c.args.right.now.parts c.as_slice.result.now c.add.result c.add.ensures c.in_ok-constant.was c.as_slice.ensures c.in_ok-add_parts.ensures
