use Rattle.std.proofs.Common.{◌≡◌, ◌∙◌, sym, ap, false}
use Rattle.mf_model.specs.declared.task.Relation.TheVariants as relation
use Rattle.mf_task.specs.GroundMeaning.{relates}
use Rattle.mf_task.specs.LimitClosure.{is_zero}
use Rattle.mf_task.specs.Rows.{sight_of}
use Rattle.mf_limit.proofs.KnownValues.{next-sum, next-undefined, next-wide, next-zero, not-zero}
use Rattle.mf_limit.proofs.chance.next_known.Goals as goal

pub returns-in_err-value-in_default : goal.returns-in_err-value-in_default
returns-in_err-value-in_default c =
    let some : is_zero c.args.part.now.coefficient ≡ false = ap (relates relation.Equal) (sym c.sign.ensures) ∙ not-zero c.sign.result c.in_default.not-Equal in
    c.from_residual.ensures ∙ next-undefined (sight_of c.args.row.now) c.args.sum c.args.part.now some c.in_err-value-in_default.ensures

pub returns-in_err-product-in_default : goal.returns-in_err-product-in_default
returns-in_err-product-in_default c =
    let some : is_zero c.args.part.now.coefficient ≡ false = ap (relates relation.Equal) (sym c.sign.ensures) ∙ not-zero c.sign.result c.in_default.not-Equal in
    c.from_residual-in_err-product-in_default.ensures
    ∙ next-wide (sight_of c.args.row.now) c.args.sum c.args.part.now c.in_ok-value-in_default.value some c.in_ok-value-in_default.ensures c.in_err-product-in_default.ensures

pub returns-in-Equal : goal.returns-in-Equal
returns-in-Equal c = next-zero (sight_of c.args.row.now) c.args.sum c.args.part.now (ap (relates relation.Equal) (sym c.in-Equal.ensures))

pub returns-in_ok-product-in_default : goal.returns-in_ok-product-in_default
returns-in_ok-product-in_default c =
    let some : is_zero c.args.part.now.coefficient ≡ false = ap (relates relation.Equal) (sym c.sign.ensures) ∙ not-zero c.sign.result c.in_default.not-Equal in
    c.total.ensures
    ∙ next-sum (sight_of c.args.row.now) c.args.sum c.args.part.now c.in_ok-value-in_default.value c.in_ok-product-in_default.product some c.in_ok-value-in_default.ensures c.in_ok-product-in_default.ensures
