use Rattle.std.proofs.Common.{arith, rules, to_z-of_z, FitsSigned, w64, sym, ◌∙◌}
use Rattle.mf_fraction.proofs.Reduced.{number}
use Rattle.mf_fraction.proofs.Checks.{stored, checked-wide_num, checked-wide_den, unsigned_abs-with_sign}
use Rattle.mf_fraction.specs.Parts.{with_sign}
use Rattle.mf_fraction.proofs.lowest.narrow.Goals as goal
use Rattle.mf_fraction.proofs.lowest.narrow.Goals.{then-size-from-via-then-size-from, then-size-from-via-else-size-from+then-d-from}

pub returns-then-size-from : goal.returns-then-size-from
returns-then-size-from c =
    elim c.then-size-from.branch [
      | then-size-from-via-then-size-from w ↦ sym (checked-wide_num (number (with_sign c.args.negative c.args.size) c.args.d) (omega (arith, unsigned_abs-with_sign c.args.negative c.args.size)))
      | then-size-from-via-else-size-from+then-d-from w ↦ sym (checked-wide_den (number (with_sign c.args.negative c.args.size) c.args.d) (omega arith))
    ]

pub returns : goal.returns
returns c =
    let f : FitsSigned w64 c.signed.result = search rules in
    stored _ (with_sign c.args.negative c.args.size) c.args.d (to_z-of_z f ∙ c.signed.ensures) (omega (arith, unsigned_abs-with_sign c.args.negative c.args.size)) (omega arith)
