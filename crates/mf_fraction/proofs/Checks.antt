-- What the checked operations answer, by the size of the parts.
use Rattle.std.proofs.Common.{◌≡◌, ℕ, zero, suc, ◌<◌, ◌≤◌, ◌^◌, ℤ, pos, negsuc, unsigned_abs, Bool, true, false, int_lt, int_div, ◌/◌, Ok, Err, refl, ap, ◌∙◌, sym, subst, arith, rules, tests, FitsSigned, to_z, of_z, to_z-of_z, w64}
use Rattle.std.specs.Int.{w128}
use Rattle.std.proofs.lemmas.Int.{fits_signed_from_abs}
use Rattle.std.proofs.lemmas.Bool.Decides.{nat_tests}
use Rattle.mf_fraction.specs.Checked.{checked, wide}
use Rattle.mf_fraction.specs.Exact.{Number, fits, reduce}
use Rattle.mf_fraction.specs.Gcd.{gcd}
use Rattle.mf_fraction.specs.Kept.{Kept}
use Rattle.mf_fraction.proofs.Divisors.{gcd_one}
use Rattle.mf_fraction.proofs.Reduced.{number}
use Rattle.mf_fraction.specs.Parts.{with_sign}

pub fits_small : (a : Number) → unsigned_abs a.num ≤ 2 ^ 62 → a.den ≤ 2 ^ 62 → fits a ≡ true
unfolding fits
fits_small a p q = search (rules, tests)

pub checked-fits : (a : Number) → unsigned_abs a.num ≤ 2 ^ 62 → a.den ≤ 2 ^ 62 → checked a ≡ Ok a
unfolding checked fits
checked-fits a p q = search (rules, tests)

pub checked-wide_num : (a : Number) → 2 ^ 62 < unsigned_abs a.num → checked a ≡ Err wide
unfolding checked fits
checked-wide_num a p = search (rules, tests)

pub checked-wide_den : (a : Number) → 2 ^ 62 < a.den → checked a ≡ Err wide
unfolding checked fits
checked-wide_den a p = grind (arith, nat_tests)

pub unsigned_abs-with_sign : (b : Bool) (n : ℕ) → unsigned_abs (with_sign b n) ≡ n
unsigned_abs-with_sign false n = refl
unsigned_abs-with_sign true zero = refl
unsigned_abs-with_sign true (suc n) = refl

-- the code divides the size and keeps the sign
pub with_sign-quotient : (n : ℤ) (g : ℕ) → with_sign (int_lt n (pos 0)) (unsigned_abs n / g) ≡ int_div n (pos g)
with_sign-quotient (pos a) g = grind (arith, nat_tests)
with_sign-quotient (negsuc a) g = refl

pub lowest-is : (t n : ℤ) (d s g : ℕ) → t ≡ n → s ≡ unsigned_abs n → g ≡ gcd s d → number (with_sign (int_lt t (pos 0)) (s / g)) (d / g) ≡ reduce n d
unfolding reduce
lowest-is t n d s g i e f =
    ap (λ (z : ℤ). number (with_sign (int_lt z (pos 0)) (s / g)) (d / g)) i ∙ ap (λ (x : ℕ). number (with_sign (int_lt n (pos 0)) (s / x)) (d / x)) f ∙ ap (λ (x : ℕ). number (with_sign (int_lt n (pos 0)) (x / gcd x d)) (d / gcd x d)) e ∙ ap (λ (z : ℤ). number z (d / gcd (unsigned_abs n) d)) (with_sign-quotient n (gcd (unsigned_abs n) d))

-- parts as the code stores them
pub stored : (z y : ℤ) (d : ℕ) → z ≡ y → unsigned_abs y ≤ 2 ^ 62 → d ≤ 2 ^ 62 → Ok (number z d) ≡ checked (number y d)
stored z y d e p q =
    let P : ℤ → Type 0 = λ x. Ok (number x d) ≡ checked (number y d) in
    subst P (sym e) (sym (checked-fits (number y d) p q))

pub whole-kept : (z y : ℤ) → z ≡ y → unsigned_abs y ≤ 2 ^ 62 → Kept z 1
whole-kept z y e p =
    subst (λ (x : ℤ). Kept x 1) (sym e)
    (record { numerator_size = p; positive = omega arith; denominator_size = omega arith; lowest = gcd_one (unsigned_abs y) })

-- a number of 128 bits that fits 64, as a cast leaves it
pub cast_short : (n : ℤ) → FitsSigned w128 n → unsigned_abs n ≤ 2 ^ 62 → to_z w64 (of_z w64 (to_z w128 (of_z w128 n))) ≡ n
cast_short n f p =
    ap (λ (x : ℤ). to_z w64 (of_z w64 x)) (to_z-of_z f) ∙ to_z-of_z (fits_signed_from_abs w64 n (omega arith))
