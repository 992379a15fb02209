use Rattle.std.proofs.Common.{arith, ◌∙◌, ap, to_z-of_z, unsigned_abs}
use Rattle.mf_fraction.specs.Checked.{checked}
use Rattle.mf_fraction.proofs.Divisors.{gcd-positive, gcd-quotient, gcd-lowest}
use Rattle.mf_fraction.proofs.Checks.{lowest-is}
use Rattle.mf_fraction.proofs.lowest.lowest.Goals as goal

pub nonzero_div-size : goal.nonzero_div-size
nonzero_div-size c = omega (arith, c.divisor-common.ensures, gcd-positive c.unsigned_abs-size.result c.args.d c.requires)

pub nonzero_div-d : goal.nonzero_div-d
nonzero_div-d c = omega (arith, c.divisor-common.ensures, gcd-positive c.unsigned_abs-size.result c.args.d c.requires)

pub narrow-requires-clause-positive : goal.narrow-requires-clause-positive
narrow-requires-clause-positive c =
    rw c.divisor-common.ensures (gcd-quotient c.unsigned_abs-size.result c.args.d c.requires)

pub narrow-requires-clause-lowest : goal.narrow-requires-clause-lowest
narrow-requires-clause-lowest c =
    rw c.divisor-common.ensures (gcd-lowest c.unsigned_abs-size.result c.args.d (gcd-positive c.unsigned_abs-size.result c.args.d c.requires))

pub returns : goal.returns
returns c =
    c.narrow.ensures ∙ ap checked (lowest-is _ c.args.n c.args.d c.unsigned_abs-size.result c.divisor-common.result (to_z-of_z c.ranges.n) (c.unsigned_abs-size.ensures.value ∙ ap unsigned_abs (to_z-of_z c.ranges.n)) c.divisor-common.ensures)
