use Rattle.std.proofs.Common.{true, subst, rules, tests, arith, sym, to_z-of_z, to_z, of_z, w64, ap, ◌∙◌, ◌≡◌, ℕ, ◌≤◌, ◌^◌, unsigned_abs, ℤ, pos, ◌-ℤ◌, neg_ℤ}
use Rattle.std.proofs.lemmas.Int.{ints, fits_signed_from_abs}
use Rattle.mf_fraction.specs.Exact.{fits, negative_of, Number}
use Rattle.mf_fraction.proofs.Reduced.{number}
use Rattle.mf_fraction.proofs.negative.neg.Goals as goal

below_zero : (z : ℤ) → pos 0 -ℤ z ≡ neg_ℤ z
below_zero z = omega (arith, ints)

size_below_zero : (z : ℤ) → unsigned_abs z ≤ 2 ^ 62 → unsigned_abs (pos 0 -ℤ z) ≤ 2 ^ 62
size_below_zero z h = omega (arith, ints)

-- a numerator as it is stored, turned and stored again
turned : (z : ℤ) → unsigned_abs z ≤ 2 ^ 62 → to_z w64 (of_z w64 (pos 0 -ℤ to_z w64 (of_z w64 z))) ≡ neg_ℤ z
turned z h =
    ap (λ (x : ℤ). to_z w64 (of_z w64 (pos 0 -ℤ x))) (to_z-of_z (fits_signed_from_abs w64 z (omega arith)))
    ∙ to_z-of_z (fits_signed_from_abs w64 (pos 0 -ℤ z) (omega (arith, size_below_zero z h)))
    ∙ below_zero z

pub returns-clause-value : goal.returns-clause-value
unfolding negative_of
returns-clause-value c =
    ap (λ (x : ℤ). number x c.a.inside.denominator) (turned c.a.inside.numerator c.a.invariant.numerator_size) ∙ ap (λ (x : Number). number (neg_ℤ x.num) x.den) c.a.view_is

fits_parts : (z : ℤ) (d : ℕ) → unsigned_abs z ≤ 2 ^ 62 → d ≤ 2 ^ 62 → fits (number z d) ≡ true
unfolding fits
fits_parts z d p q = search (rules, tests)

size_turned : (z : ℤ) → unsigned_abs z ≤ 2 ^ 62 → unsigned_abs (neg_ℤ z) ≤ 2 ^ 62
size_turned z h = omega (arith, ints)

pub returns-clause-fits : goal.returns-clause-fits
returns-clause-fits c =
    let n = c.a.inside.numerator in
    let d = c.a.inside.denominator in
    subst (λ (x : ℤ). fits (number x d) ≡ true) (sym (turned n c.a.invariant.numerator_size)) (fits_parts (neg_ℤ n) d (size_turned n c.a.invariant.numerator_size) c.a.invariant.denominator_size)
