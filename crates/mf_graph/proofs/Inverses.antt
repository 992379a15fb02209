-- One over a stored number fits.
use Rattle.std.proofs.Common.{◌≡◌, ℕ, zero, suc, ◌*◌, ◌<◌, ◌≤◌, ◌^◌, ℤ, pos, negsuc, ◌*ℤ◌, neg_ℤ, unsigned_abs, Bool, true, false, ◌&&◌, nat_le, Option, Some, None, Result, Ok, Err, refl, sym, ap, subst, ◌∙◌, arith, rules, tests}
use Rattle.std.specs.Prelude.{if◌then◌else◌}
use Rattle.std.proofs.lemmas.Int.{ints, unsigned_abs-mul}
use Rattle.mf_fraction.specs.declared.faults.Wide.{Wide}
use Rattle.mf_fraction.specs.declared.faults.DivFault.{DivFault}
use Rattle.mf_fraction.specs.declared.faults.DivFault.TheVariants as fault
use Rattle.mf_fraction.specs.Checked.{checked, checked_quotient, wide}
use Rattle.mf_fraction.specs.Gcd.{gcd}
use Rattle.mf_fraction.specs.Exact.{Number, Proper, fits, quotient_of, quotient_by, reduce, whole}
use Rattle.mf_fraction.proofs.Divisors.{gcd-positive}
use Rattle.mf_fraction.proofs.Reduced.{times-num, times-den}

part_of : (g x n : ℕ) → 0 < g → g * x ≡ n → x ≤ n
part_of zero x n h e = absurd (omega arith)
part_of (suc g) x n h e = omega (arith, e)

fits_by : (a : Number) → unsigned_abs a.num ≤ 2 ^ 62 → a.den ≤ 2 ^ 62 → fits a ≡ true
unfolding fits
fits_by a h k = search (rules, tests)

reduce_fits : (n : ℤ) (d : ℕ) → 0 < d → unsigned_abs n ≤ 2 ^ 62 → d ≤ 2 ^ 62 → fits (reduce n d) ≡ true
reduce_fits n d p h k =
    let g : ℕ = gcd (unsigned_abs n) d in
    let some : 0 < g = gcd-positive (unsigned_abs n) d p in
    let top : g * unsigned_abs (reduce n d).num ≡ unsigned_abs n = sym (unsigned_abs-mul (pos g) (reduce n d).num) ∙ ap unsigned_abs (times-num n d) in
    let low : unsigned_abs (reduce n d).num ≤ unsigned_abs n = part_of g (unsigned_abs (reduce n d).num) (unsigned_abs n) some top in
    let bottom : (reduce n d).den ≤ d = part_of g (reduce n d).den d some (times-den n d) in
    fits_by (reduce n d) (omega (arith, low, h)) (omega (arith, bottom, k))

sizes : (a : Number) → fits a ≡ true → (unsigned_abs a.num ≤ 2 ^ 62) × (a.den ≤ 2 ^ 62)
unfolding fits
sizes a e = search (rules, tests)

times_one : (d : ℕ) → unsigned_abs (pos 1 *ℤ pos d) ≡ d
times_one d = omega (arith, ints)

times_one_negated : (d : ℕ) → unsigned_abs (neg_ℤ (pos 1 *ℤ pos d)) ≡ d
times_one_negated d = omega (arith, ints)

abbrev fits_if_any : Option Number → Type 0
fits_if_any (Some a) = fits a ≡ true
fits_if_any None = Unit {0}

inverse_by : (n : ℤ) (d : ℕ) → unsigned_abs n ≤ 2 ^ 62 → d ≤ 2 ^ 62 → fits_if_any (quotient_by (pos 1) 1 n d)
unfolding quotient_by
inverse_by (pos zero) d h k = tt
inverse_by (pos (suc m)) d h k = let one = times_one d in reduce_fits (pos 1 *ℤ pos d) (1 * suc m) (omega arith) (omega (arith, one, k)) (omega (arith, h))
inverse_by (negsuc m) d h k = let one = times_one_negated d in reduce_fits (neg_ℤ (pos 1 *ℤ pos d)) (1 * suc m) (omega arith) (omega (arith, one, k)) (omega (arith, h))

pub inverse_fits : (a : Number) → fits a ≡ true → fits_if_any (quotient_of (whole (pos 1)) a)
unfolding quotient_of
inverse_fits a e = let both = sizes a e in inverse_by a.num a.den both.0 both.1

ok_where : (b : Bool) (a c : Number) → (if b then Ok a else Err fault.Wide) ≡ Ok c → Some c ≡ Some a
ok_where true a c e = cc
ok_where false a c e = cc

checked_ok : (q : Option Number) (a : Number) → checked_quotient q ≡ Ok a → Some a ≡ q
unfolding checked_quotient
checked_ok None a e = cc
checked_ok (Some b) a e = ok_where (fits b) b a e

zero_where : (b : Bool) (a : Number) → (if b then Ok a else Err fault.Wide) ≡ Err fault.ZeroDivisor → None ≡ Some a
zero_where true a e = cc
zero_where false a e = cc

checked_zero : (q : Option Number) → checked_quotient q ≡ Err fault.ZeroDivisor → None ≡ q
unfolding checked_quotient
checked_zero None e = refl
checked_zero (Some a) e = zero_where (fits a) a e

wide_where : (b : Bool) (a : Number) → b ≡ true → (if b then Ok a else Err fault.Wide) ≡ Err fault.Wide → ⊥
wide_where true a f e = cc
wide_where false a f e = cc

checked_wide : (q : Option Number) → fits_if_any q → checked_quotient q ≡ Err fault.Wide → ⊥
unfolding checked_quotient
checked_wide None f e = cc
checked_wide (Some a) f e = wide_where (fits a) a f e

module _ (one a : Number) (r : Result Number DivFault) (is_one : one ≡ whole (pos 1)) (is : r ≡ checked_quotient (quotient_of one a)) where
  answer : r ≡ checked_quotient (quotient_of (whole (pos 1)) a)
  answer = is ∙ ap (λ (b : Number). checked_quotient (quotient_of b a)) is_one

  pub inverse_ok : (b : Number) → r ≡ Ok b → Some b ≡ quotient_of (whole (pos 1)) a
  inverse_ok b e = checked_ok (quotient_of (whole (pos 1)) a) b (sym answer ∙ e)

  pub inverse_zero : (f : DivFault) → r ≡ Err f → f ≡ fault.ZeroDivisor → None ≡ quotient_of (whole (pos 1)) a
  inverse_zero f e g = checked_zero (quotient_of (whole (pos 1)) a) (sym answer ∙ e ∙ ap (λ (x : DivFault). Err x) g)

  pub inverse_wide : (f : DivFault) → fits a ≡ true → r ≡ Err f → f ≡ fault.Wide → ⊥
  inverse_wide f h e g = checked_wide (quotient_of (whole (pos 1)) a) (inverse_fits a h) (sym answer ∙ e ∙ ap (λ (x : DivFault). Err x) g)
