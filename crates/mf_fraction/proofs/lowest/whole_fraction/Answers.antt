use Rattle.std.proofs.Common.{◌≡◌, ◌≤◌, ◌^◌, arith, sym, ap, ◌∙◌, unsigned_abs, to_z-of_z}
use Rattle.mf_fraction.specs.Exact.{whole}
use Rattle.mf_fraction.proofs.Checks.{stored, whole-kept, cast_short, checked-wide_num}
use Rattle.mf_fraction.proofs.lowest.whole_fraction.Goals as goal

pub returns-then-unsigned_abs-from : goal.returns-then-unsigned_abs-from
returns-then-unsigned_abs-from c =
    let e : c.unsigned_abs.result ≡ unsigned_abs c.args.n = c.unsigned_abs.ensures.value ∙ ap unsigned_abs (to_z-of_z c.ranges.n) in
    sym (checked-wide_num (whole c.args.n) (omega arith))

pub invariant_of-result : goal.invariant_of-result
invariant_of-result c =
    let e : c.unsigned_abs.result ≡ unsigned_abs c.args.n = c.unsigned_abs.ensures.value ∙ ap unsigned_abs (to_z-of_z c.ranges.n) in
    let p : unsigned_abs c.args.n ≤ 2 ^ 62 = omega arith in
    whole-kept _ c.args.n (cast_short c.args.n c.ranges.n p) p

pub returns : goal.returns
returns c =
    let e : c.unsigned_abs.result ≡ unsigned_abs c.args.n = c.unsigned_abs.ensures.value ∙ ap unsigned_abs (to_z-of_z c.ranges.n) in
    let p : unsigned_abs c.args.n ≤ 2 ^ 62 = omega arith in
    stored _ c.args.n 1 (cast_short c.args.n c.ranges.n p) p (omega arith)
