use Rattle.std.proofs.Common.{◌<◌, ℕ, sym, subst, length-take-le, arith}
use Rattle.mf_fraction.proofs.Decimals.{places-le, ten_positive}
use Rattle.mf_fraction.proofs.DecimalValues.{parts_many, parts_great, parts_ok, parts_wide}
use Rattle.mf_fraction.proofs.decimal.fraction.Goals as goal

pub returns-then-count-gt-MOST_PLACES : goal.returns-then-count-gt-MOST_PLACES
returns-then-count-gt-MOST_PLACES c =
    parts_many c.args.negative c.args.front.now c.args.back.now c.places-count.result c.places-count.ensures c.if-count-gt-MOST_PLACES.true

pub slice_bounds-size-end : goal.slice_bounds-size-end
slice_bounds-size-end c =
    sym (length-take-le c.places-count.result c.args.back.now (omega (arith, c.places-count.ensures, places-le c.args.back.now)))

pub returns-in_default : goal.returns-in_default
returns-in_default c =
    parts_great c.args.negative c.args.front.now c.args.back.now c.places-count.result c.places-count.ensures c.if-count-gt-MOST_PLACES.false c.in_default.ensures

pub lowest-requires : goal.lowest-requires
lowest-requires c = subst (λ (x : ℕ). 0 < x) (sym c.pow.ensures) (ten_positive c.places-count.result)

pub returns-in-Ok : goal.returns-in-Ok
returns-in-Ok c =
    parts_ok c.args.negative c.args.front.now c.args.back.now c.places-count.result c.in-Some.size c.turned.result c.pow.result c.in-Ok.value c.places-count.ensures c.if-count-gt-MOST_PLACES.false c.in-Some.ensures c.turned.ensures c.pow.ensures c.in-Ok.ensures

pub returns-in-Err : goal.returns-in-Err
returns-in-Err c =
    parts_wide c.args.negative c.args.front.now c.args.back.now c.places-count.result c.in-Some.size c.turned.result c.pow.result c.in-Err.field-0 c.places-count.ensures c.if-count-gt-MOST_PLACES.false c.in-Some.ensures c.turned.ensures c.pow.ensures c.in-Err.ensures
