use Rattle.std.proofs.Common.{map}
use Rattle.std.proofs.lemmas.Result.{err_from_is_err_and}
use Rattle.mf_fraction.specs.Exact.{product_of}
use Rattle.mf_task.specs.LinearForms.{scaled_part}
use Rattle.mf_normal.proofs.Forms.{constant_wide, form_made_of}
use Rattle.mf_normal.proofs.arithmetic.scaled.Goals as goal

pub returns-in_err-constant : goal.returns-in_err-constant
returns-in_err-constant c =
    let p = err_from_is_err_and c.from_residual.result c.from_residual.ensures.1 in
    rw (p.1, p.2) (constant_wide (product_of c.args.factor c.args.form.now.constant) (map (scaled_part c.args.factor) c.args.form.now.parts) _ c.mul.result c.mul.ensures c.in_err-constant.was)

pub returns : goal.returns
returns c =
    form_made_of (map (scaled_part c.args.factor)) c.in_ok-constant.constant (product_of c.args.factor c.args.form.now.constant) c.in_ok-parts.parts c.args.form.now.parts c.as_slice.result.now c.mul.result c.mul.ensures c.in_ok-constant.was c.as_slice.ensures c.in_ok-parts.ensures
