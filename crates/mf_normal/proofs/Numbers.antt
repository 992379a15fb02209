-- Checked numbers: what an answer says of the exact result, the other sign, and the reciprocal.
use Rattle.std.proofs.Common.{◌≡◌, ℕ, zero, suc, ◌*◌, ◌/◌, ◌<◌, ◌≤◌, ◌^◌, ℤ, pos, negsuc, ◌*ℤ◌, neg_ℤ, unsigned_abs, int_div, Bool, true, false, Option, Some, None, Result, Ok, Err, if◌then◌else◌, refl, sym, ap, ◌∙◌, subst, arith}
use Rattle.std.proofs.Math.Nat.{div-le_self}
use Rattle.std.proofs.lemmas.Bool.Decides.{nat_tests}
use Rattle.mf_fraction.specs.Checked.{checked, checked_quotient}
use Rattle.mf_fraction.specs.Exact.{Number, Proper, fits, negative_of, product_of, quotient_by, quotient_of, reduce, whole}
use Rattle.mf_fraction.specs.Gcd.{gcd}
use Rattle.mf_fraction.specs.declared.faults.DivFault.{DivFault}
use Rattle.mf_fraction.specs.declared.faults.DivFault.TheVariants as fault
use Rattle.mf_fraction.specs.declared.faults.Wide.{Wide}
use Rattle.mf_fraction.proofs.Algebra.{difference_of-negative, difference_of-product, negative_of-proper, product_of-proper, sum_of-zero}
use Rattle.mf_fraction.proofs.Checks.{checked-fits, fits_small}

answer_fits : (b : Bool) (a c : Number) (w : Wide) → (if b then Ok a else Err w) ≡ Ok c → (c ≡ a) × (b ≡ true)
answer_fits true a c w e = (cc, refl)
answer_fits false a c w e = absurd cc

pub checked_ok : (a c : Number) → checked a ≡ Ok c → (c ≡ a) × (fits a ≡ true)
unfolding checked
checked_ok a c e = answer_fits (fits a) a c _ e

answer_fails : (b : Bool) (a : Number) (v w : Wide) → (if b then Ok a else Err v) ≡ Err w → b ≡ false
answer_fails true a v w e = cc
answer_fails false a v w e = refl

pub checked_err : (a : Number) (w : Wide) → checked a ≡ Err w → fits a ≡ false
unfolding checked
checked_err a w e = answer_fails (fits a) a _ w e

-- small whole numbers

pub zero_fits : (r : Result Number Wide) (w : Wide) → r ≡ checked (whole (pos 0)) → r ≡ Err w → ⊥
zero_fits r w e f =
    let k : Ok (whole (pos 0)) ≡ Err w = sym (checked-fits (whole (pos 0)) (omega arith) (omega arith)) ∙ sym e ∙ f in
    cc

pub one_fits : (r : Result Number Wide) (w : Wide) → r ≡ checked (whole (pos 1)) → r ≡ Err w → ⊥
one_fits r w e f =
    let k : Ok (whole (pos 1)) ≡ Err w = sym (checked-fits (whole (pos 1)) (omega arith) (omega arith)) ∙ sym e ∙ f in
    cc

-- what an answer that fits says
pub answered_ok : (a c : Number) (r : Result Number Wide) → r ≡ checked a → r ≡ Ok c → (c ≡ a) × (fits c ≡ true)
answered_ok a c r e f =
    let k = checked_ok a c (sym e ∙ f) in
    (k.0, ap fits k.0 ∙ k.1)

-- a number in lowest terms is no larger than as it is written

abs-negative : (m : ℕ) → unsigned_abs (neg_ℤ (pos m)) ≡ m
abs-negative zero = refl
abs-negative (suc m) = refl

abs-quotient : (n : ℤ) (g : ℕ) → unsigned_abs (int_div n (pos g)) ≡ unsigned_abs n / g
abs-quotient (pos a) g = refl
abs-quotient (negsuc a) g = abs-negative (suc a / g)

no_larger : (n g m : ℕ) → n ≤ m → n / g ≤ m
no_larger n g m h = let q : n / g ≤ n = div-le_self n g in omega (arith, q, h)

fits_reduce : (n : ℤ) (d : ℕ) → unsigned_abs n ≤ 2 ^ 62 → d ≤ 2 ^ 62 → fits (reduce n d) ≡ true
unfolding reduce
fits_reduce n d a b =
    let g : ℕ = gcd (unsigned_abs n) d in
    let top : unsigned_abs n / g ≤ 2 ^ 62 = no_larger (unsigned_abs n) g (2 ^ 62) a in
    fits_small (record { num = int_div n (pos g); den = d / g }) (subst (λ (x : ℕ). x ≤ 2 ^ 62) (sym (abs-quotient n g)) top) (no_larger d g (2 ^ 62) b)

-- the reciprocal of a number that fits, and whose denominator fits

abbrev IsNarrow : Option Number → Type 0
IsNarrow None = Unit {0}
IsNarrow (Some a) = fits a ≡ true

reciprocal_by : (n : ℤ) (d : ℕ) → unsigned_abs n ≤ 2 ^ 62 → d ≤ 2 ^ 62 → IsNarrow (quotient_by (pos 1) 1 n d)
unfolding quotient_by
reciprocal_by (pos zero) d a b = tt
reciprocal_by (pos (suc m)) d a b = fits_reduce (pos 1 *ℤ pos d) (1 * suc m) (omega (arith, b)) (omega (arith, a))
reciprocal_by (negsuc m) d a b = fits_reduce (neg_ℤ (pos 1 *ℤ pos d)) (1 * suc m) (subst (λ (x : ℕ). x ≤ 2 ^ 62) (sym (abs-negated d)) b) (omega (arith, a))
  where
    abs-negated : (e : ℕ) → unsigned_abs (neg_ℤ (pos 1 *ℤ pos e)) ≡ e
    abs-negated e = let once : 1 * e ≡ e = omega arith in ap (λ (n : ℕ). unsigned_abs (neg_ℤ (pos n))) once ∙ abs-negative e

sizes : (a : Number) → fits a ≡ true → (unsigned_abs a.num ≤ 2 ^ 62) × (a.den ≤ 2 ^ 62)
unfolding fits
sizes a e = grind (arith, nat_tests)

abbrev quotient_answer : Option Number → Result Number DivFault → Type 0
quotient_answer q (Ok a) = q ≡ Some a
quotient_answer q (Err fault.ZeroDivisor) = q ≡ None
quotient_answer q (Err fault.Wide) = ⊥

answers : (q : Option Number) → IsNarrow q → quotient_answer q (checked_quotient q)
unfolding checked_quotient
answers None narrow = refl
answers (Some a) narrow = rw narrow refl

-- what a division of 1 by a number that fits answers
reciprocal_answer : (a one : Number) (r : Result Number DivFault) → fits a ≡ true → one ≡ whole (pos 1) → r ≡ checked_quotient (quotient_of one a) → quotient_answer (quotient_of (whole (pos 1)) a) r
unfolding quotient_of
reciprocal_answer a one r narrow o e =
    let s = sizes a narrow in
    let same : r ≡ checked_quotient (quotient_of (whole (pos 1)) a) = e ∙ ap (λ (x : Number). checked_quotient (quotient_of x a)) o in
    subst (λ (x : Result Number DivFault). quotient_answer (quotient_of (whole (pos 1)) a) x) (sym same) (answers (quotient_of (whole (pos 1)) a) (reciprocal_by a.num a.den s.0 s.1))

pub reciprocal_is : (a one q : Number) (r : Result Number DivFault) → fits a ≡ true → one ≡ whole (pos 1) → r ≡ checked_quotient (quotient_of one a) → r ≡ Ok q → Some q ≡ quotient_of (whole (pos 1)) a
reciprocal_is a one q r narrow o e f =
    sym (subst (λ (x : Result Number DivFault). quotient_answer (quotient_of (whole (pos 1)) a) x) f (reciprocal_answer a one r narrow o e))

pub reciprocal_none : (a one : Number) (w : DivFault) (r : Result Number DivFault) → fits a ≡ true → one ≡ whole (pos 1) → r ≡ checked_quotient (quotient_of one a) → r ≡ Err w → w ≡ fault.ZeroDivisor → None ≡ quotient_of (whole (pos 1)) a
reciprocal_none a one w r narrow o e f g =
    sym (subst (λ (x : Result Number DivFault). quotient_answer (quotient_of (whole (pos 1)) a) x) (f ∙ ap Err g) (reciprocal_answer a one r narrow o e))

pub reciprocal_fails : (a one : Number) (w : DivFault) (r : Result Number DivFault) → fits a ≡ true → one ≡ whole (pos 1) → r ≡ checked_quotient (quotient_of one a) → r ≡ Err w → w ≡ fault.Wide → ⊥
reciprocal_fails a one w r narrow o e f g =
    subst (λ (x : Result Number DivFault). quotient_answer (quotient_of (whole (pos 1)) a) x) (f ∙ ap Err g) (reciprocal_answer a one r narrow o e)

-- the product with -1

pub opposite_is : (a : Number) → Proper a → product_of (whole (negsuc 0)) a ≡ negative_of a
opposite_is a p =
    let n : Proper (negative_of a) = negative_of-proper a p in
    let one : 0 < 1 = omega arith in
    sym (sum_of-zero (product_of (whole (negsuc 0)) a) (product_of-proper (whole (negsuc 0)) a one p.positive))
    ∙ sym (difference_of-product (whole (pos 0)) a)
    ∙ difference_of-negative (whole (pos 0)) a
    ∙ sum_of-zero (negative_of a) n
