-- The code of each operation against its exact meaning: the numbers that it makes, as casts leave them.
use Rattle.std.proofs.Common.{◌≡◌, ℕ, zero, suc, ◌*◌, ◌<◌, ◌≤◌, ◌^◌, ℤ, pos, negsuc, ◌+ℤ◌, ◌-ℤ◌, ◌*ℤ◌, unsigned_abs, int_lt, Bool, true, false, Option, Some, Ok, Err, if◌then◌else◌, refl, sym, ap, ap₂, ◌∙◌, subst, arith, FitsSigned, to_z, of_z, to_z-of_z, w64, mul-pos, ◌↔◌, Ordering, Equal, int_cmp}
use Rattle.std.specs.Int.{Width, w128}
use Rattle.std.proofs.lemmas.Int.{ints, fits_signed_from_abs}
use Rattle.std.proofs.lemmas.Bool.Decides.{nat_tests}
use Rattle.mf_fraction.specs.Exact.{Number, Proper, whole, reduce, order_of, sum_of, difference_of, product_of, quotient_by, quotient_of, fits}
use Rattle.mf_fraction.specs.Checked.{checked, checked_quotient, wide}
use Rattle.mf_fraction.specs.declared.faults.Wide.{Wide}
use Rattle.mf_fraction.specs.declared.faults.DivFault.TheVariants as fault
use Rattle.mf_fraction.specs.Parts.{turned}
use Rattle.mf_fraction.specs.Kept.{Kept}
use Rattle.mf_fraction.proofs.Comparisons.{int_cmp-scale, order_of-equal, order_of-same}
use Rattle.mf_fraction.proofs.Reduced.{number, reduce_one}
use Rattle.mf_fraction.proofs.Signed.{signed, natural, plus, minus, times, equal_by}

-- a signed number of a width, sent to its bits and read again
abbrev pub wrapped : Width → ℤ → ℤ
wrapped w z = to_z w (of_z w z)

pub short_is : (n : ℤ) → unsigned_abs n ≤ 2 ^ 62 → wrapped w64 n ≡ n
short_is n p = to_z-of_z (fits_signed_from_abs w64 n (omega arith))

pub long_is : (n : ℤ) → unsigned_abs n ≤ 2 ^ 126 → wrapped w128 n ≡ n
long_is n p = to_z-of_z (fits_signed_from_abs w128 n (omega arith))

sum_size : (l r : ℤ) → unsigned_abs l ≤ 2 ^ 124 → unsigned_abs r ≤ 2 ^ 124 → unsigned_abs (l +ℤ r) ≤ 2 ^ 126
sum_size l r p q = omega (arith, ints)

difference_size : (l r : ℤ) → unsigned_abs l ≤ 2 ^ 124 → unsigned_abs r ≤ 2 ^ 124 → unsigned_abs (l -ℤ r) ≤ 2 ^ 126
difference_size l r p q = omega (arith, ints)

wrapped_sum : (l r : ℤ) → unsigned_abs l ≤ 2 ^ 124 → unsigned_abs r ≤ 2 ^ 124 → wrapped w128 (wrapped w128 l +ℤ wrapped w128 r) ≡ l +ℤ r
wrapped_sum l r p q =
    ap₂ (λ (x y : ℤ). wrapped w128 (x +ℤ y)) (long_is l (omega arith)) (long_is r (omega arith)) ∙ long_is (l +ℤ r) (sum_size l r p q)

wrapped_difference : (l r : ℤ) → unsigned_abs l ≤ 2 ^ 124 → unsigned_abs r ≤ 2 ^ 124 → wrapped w128 (wrapped w128 l -ℤ wrapped w128 r) ≡ l -ℤ r
wrapped_difference l r p q =
    ap₂ (λ (x y : ℤ). wrapped w128 (x -ℤ y)) (long_is l (omega arith)) (long_is r (omega arith)) ∙ long_is (l -ℤ r) (difference_size l r p q)

-- a numerator times a denominator
cross : (n l : ℤ) (e : ℕ) → unsigned_abs n ≤ 2 ^ 62 → l ≡ wrapped w64 n *ℤ pos e → l ≡ n *ℤ pos e
cross n l e p q = q ∙ ap (λ (x : ℤ). x *ℤ pos e) (short_is n p)

pub add_long : (a b : Number) (n m : ℤ) (d e : ℕ) (l r : ℤ) (p : ℕ) → number n d ≡ a → number m e ≡ b → unsigned_abs n ≤ 2 ^ 62 → unsigned_abs m ≤ 2 ^ 62 → l ≡ wrapped w64 n *ℤ pos e → r ≡ wrapped w64 m *ℤ pos d → unsigned_abs l ≤ 2 ^ 124 → unsigned_abs r ≤ 2 ^ 124 → p ≡ d * e → reduce (wrapped w128 (wrapped w128 l +ℤ wrapped w128 r)) p ≡ sum_of a b
unfolding sum_of
add_long a b n m d e l r p va vb pn pm el er pl pr ep =
    ap₂ reduce (wrapped_sum l r pl pr ∙ ap₂ ◌+ℤ◌ (cross n l e pn el) (cross m r d pm er)) ep ∙ ap₂ sum_of va vb

pub sub_long : (a b : Number) (n m : ℤ) (d e : ℕ) (l r : ℤ) (p : ℕ) → number n d ≡ a → number m e ≡ b → unsigned_abs n ≤ 2 ^ 62 → unsigned_abs m ≤ 2 ^ 62 → l ≡ wrapped w64 n *ℤ pos e → r ≡ wrapped w64 m *ℤ pos d → unsigned_abs l ≤ 2 ^ 124 → unsigned_abs r ≤ 2 ^ 124 → p ≡ d * e → reduce (wrapped w128 (wrapped w128 l -ℤ wrapped w128 r)) p ≡ difference_of a b
unfolding difference_of
sub_long a b n m d e l r p va vb pn pm el er pl pr ep =
    ap₂ reduce (wrapped_difference l r pl pr ∙ ap₂ (λ (x y : ℤ). x -ℤ y) (cross n l e pn el) (cross m r d pm er)) ep ∙ ap₂ difference_of va vb

-- two whole numbers
pub add_short : (a b : Number) (n m : ℤ) (d e : ℕ) (x y : ℤ) → number n d ≡ a → number m e ≡ b → unsigned_abs n ≤ 2 ^ 62 → unsigned_abs m ≤ 2 ^ 62 → x ≡ wrapped w64 n → y ≡ wrapped w64 m → d ≡ 1 → e ≡ 1 → whole (wrapped w128 (wrapped w128 x +ℤ wrapped w128 y)) ≡ sum_of a b
unfolding sum_of
add_short a b n m d e x y va vb pn pm ex ey ed ee =
    ap₂ (λ (x y : ℤ). whole (wrapped w128 (wrapped w128 x +ℤ wrapped w128 y))) (ex ∙ short_is n pn) (ey ∙ short_is m pm)
    ∙ ap whole (wrapped_sum n m (omega arith) (omega arith)) ∙ sym (reduce_one (n +ℤ m))
    ∙ ap₂ reduce (equal_by (plus (signed n) (signed m)) (plus (times (signed n) (natural 1)) (times (signed m) (natural 1))) (omega arith)) refl
    ∙ ap₂ (λ (s t : ℕ). sum_of (number n s) (number m t)) (sym ed) (sym ee) ∙ ap₂ sum_of va vb

pub sub_short : (a b : Number) (n m : ℤ) (d e : ℕ) (x y : ℤ) → number n d ≡ a → number m e ≡ b → unsigned_abs n ≤ 2 ^ 62 → unsigned_abs m ≤ 2 ^ 62 → x ≡ wrapped w64 n → y ≡ wrapped w64 m → d ≡ 1 → e ≡ 1 → whole (wrapped w128 (wrapped w128 x -ℤ wrapped w128 y)) ≡ difference_of a b
unfolding difference_of
sub_short a b n m d e x y va vb pn pm ex ey ed ee =
    ap₂ (λ (x y : ℤ). whole (wrapped w128 (wrapped w128 x -ℤ wrapped w128 y))) (ex ∙ short_is n pn) (ey ∙ short_is m pm)
    ∙ ap whole (wrapped_difference n m (omega arith) (omega arith)) ∙ sym (reduce_one (n -ℤ m))
    ∙ ap₂ reduce (equal_by (minus (signed n) (signed m)) (minus (times (signed n) (natural 1)) (times (signed m) (natural 1))) (omega arith)) refl
    ∙ ap₂ (λ (s t : ℕ). difference_of (number n s) (number m t)) (sym ed) (sym ee) ∙ ap₂ difference_of va vb

pub mul_long : (a b : Number) (n m : ℤ) (d e : ℕ) (t : ℤ) (p : ℕ) → number n d ≡ a → number m e ≡ b → unsigned_abs n ≤ 2 ^ 62 → unsigned_abs m ≤ 2 ^ 62 → FitsSigned w128 t → t ≡ wrapped w64 n *ℤ wrapped w64 m → p ≡ d * e → reduce (wrapped w128 t) p ≡ product_of a b
unfolding product_of
mul_long a b n m d e t p va vb pn pm ft et ep =
    ap₂ reduce (to_z-of_z ft ∙ et ∙ ap₂ ◌*ℤ◌ (short_is n pn) (short_is m pm)) ep ∙ ap₂ product_of va vb

pub mul_short : (a b : Number) (n m : ℤ) (d e : ℕ) (t : ℤ) → number n d ≡ a → number m e ≡ b → unsigned_abs n ≤ 2 ^ 62 → unsigned_abs m ≤ 2 ^ 62 → FitsSigned w128 t → t ≡ wrapped w64 n *ℤ wrapped w64 m → d ≡ 1 → e ≡ 1 → whole (wrapped w128 t) ≡ product_of a b
unfolding product_of
mul_short a b n m d e t va vb pn pm ft et ed ee =
    ap whole (to_z-of_z ft ∙ et ∙ ap₂ ◌*ℤ◌ (short_is n pn) (short_is m pm)) ∙ sym (reduce_one (n *ℤ m))
    ∙ ap₂ (λ (s t : ℕ). product_of (number n s) (number m t)) (sym ed) (sym ee) ∙ ap₂ product_of va vb

-- ---- quotients
-- `==` compares the bits
pub bits_zero : (m : ℤ) → unsigned_abs m ≤ 2 ^ 62 → of_z w64 m ≡ 0 → m ≡ pos 0
bits_zero (pos n) p h = ap pos h
bits_zero (negsuc n) p h = absurd (omega arith)

pub bits_other : (m : ℤ) → (of_z w64 m ≡ 0 → ⊥) → m ≡ pos 0 → ⊥
bits_other m h e = h (ap (of_z w64) e)

pub divisor_positive : (m : ℤ) (d s p : ℕ) → unsigned_abs m ≤ 2 ^ 62 → (m ≡ pos 0 → ⊥) → 0 < d → s ≡ unsigned_abs (wrapped w64 m) → p ≡ d * s → 0 < p
divisor_positive m d s p pm h hd es ep =
    subst (λ (x : ℕ). 0 < x) (sym (ep ∙ ap (λ (x : ℕ). d * x) (es ∙ ap unsigned_abs (short_is m pm)))) (mul-pos hd (some m h))
  where
    some : (m : ℤ) → (m ≡ pos 0 → ⊥) → 0 < unsigned_abs m
    some (pos zero) h = absurd (h refl)
    some (pos (suc n)) h = omega arith
    some (negsuc n) h = omega arith

quotient_by-turned : (n : ℤ) (d : ℕ) (m : ℤ) (e : ℕ) → (m ≡ pos 0 → ⊥) → quotient_by n d m e ≡ Some (reduce (turned (int_lt m (pos 0)) (n *ℤ pos e)) (d * unsigned_abs m))
unfolding quotient_by
quotient_by-turned n d (pos zero) e h = absurd (h refl)
quotient_by-turned n d (pos (suc m)) e h = grind (arith, nat_tests)
quotient_by-turned n d (negsuc m) e h = refl

-- the code of a division by a number that is not 0
pub div_long : (a b : Number) (n m : ℤ) (d e : ℕ) (l t : ℤ) (s p : ℕ) → number n d ≡ a → number m e ≡ b → unsigned_abs n ≤ 2 ^ 62 → unsigned_abs m ≤ 2 ^ 62 → (m ≡ pos 0 → ⊥) → l ≡ wrapped w64 n *ℤ pos e → unsigned_abs l ≤ 2 ^ 124 → s ≡ unsigned_abs (wrapped w64 m) → p ≡ d * s → FitsSigned w128 t → t ≡ turned (int_lt (wrapped w64 m) (pos 0)) (wrapped w128 l) → quotient_of a b ≡ Some (reduce (wrapped w128 t) p)
unfolding quotient_of
div_long a b n m d e l t s p va vb pn pm h el pl es ep ft et =
    sym (ap₂ quotient_of va vb) ∙ quotient_by-turned n d m e h ∙ sym (ap Some (ap₂ reduce top bottom))
  where
    top : wrapped w128 t ≡ turned (int_lt m (pos 0)) (n *ℤ pos e)
    top = to_z-of_z ft ∙ et ∙ ap₂ (λ (x y : ℤ). turned (int_lt x (pos 0)) y) (short_is m pm) (long_is l (omega arith) ∙ cross n l e pn el)

    bottom : p ≡ d * unsigned_abs m
    bottom = ep ∙ ap (λ (x : ℕ). d * x) (es ∙ ap unsigned_abs (short_is m pm))

pub quotient_zero : (a b : Number) (m : ℤ) (e : ℕ) → number m e ≡ b → m ≡ pos 0 → Err fault.ZeroDivisor ≡ checked_quotient (quotient_of a b)
unfolding quotient_of quotient_by checked_quotient
quotient_zero a b m e vb h =
    let P : Number → Type 0 = λ x. Err fault.ZeroDivisor ≡ checked_quotient (quotient_of a x) in
    subst P (ap (λ (x : ℤ). number x e) (sym h) ∙ vb) refl

-- a checked quotient from a checked number
pub checked_ok : (a x : Number) (q : Option Number) → q ≡ Some a → Ok x ≡ checked a → Ok x ≡ checked_quotient q
unfolding checked checked_quotient
checked_ok a x q e f = rw e (by (fits a) f)
  where
    by : (b : Bool) → Ok x ≡ (if b then Ok a else Err wide) → Ok x ≡ (if b then Ok a else Err fault.Wide)
    by true h = cc
    by false h = cc

pub checked_wide : (a : Number) (w : Wide) (q : Option Number) → q ≡ Some a → Err w ≡ checked a → Err fault.Wide ≡ checked_quotient q
unfolding checked checked_quotient
checked_wide a w q e f = rw e (by (fits a) f)
  where
    by : (b : Bool) → Err w ≡ (if b then Ok a else Err wide) → Err fault.Wide ≡ (if b then Ok a else Err fault.Wide)
    by true h = cc
    by false h = refl

-- ---- the order
pub cmp_short : (a b : Number) (n m : ℤ) (d e : ℕ) → number n d ≡ a → number m e ≡ b → 0 < d → d ≡ e → int_cmp n m ≡ order_of a b
unfolding order_of
cmp_short a b n m d e va vb h ed =
    sym (int_cmp-scale n m d h) ∙ ap (λ (x : ℕ). int_cmp (n *ℤ pos x) (m *ℤ pos d)) ed ∙ ap₂ order_of va vb

pub cmp_long : (a b : Number) (n m : ℤ) (d e : ℕ) (l r : ℤ) → number n d ≡ a → number m e ≡ b → unsigned_abs n ≤ 2 ^ 62 → unsigned_abs m ≤ 2 ^ 62 → l ≡ wrapped w64 n *ℤ pos e → r ≡ wrapped w64 m *ℤ pos d → unsigned_abs l ≤ 2 ^ 124 → unsigned_abs r ≤ 2 ^ 124 → int_cmp (wrapped w128 l) (wrapped w128 r) ≡ order_of a b
unfolding order_of
cmp_long a b n m d e l r va vb pn pm el er pl pr =
    ap₂ int_cmp (long_is l (omega arith) ∙ cross n l e pn el) (long_is r (omega arith) ∙ cross m r d pm er) ∙ ap₂ order_of va vb

pub kept-proper : (a : Number) (n : ℤ) (d : ℕ) → number n d ≡ a → Kept n d → Proper a
kept-proper a n d e k = subst Proper e (record { lowest = k.lowest; positive = k.positive })

pub cmp_equal : (a b : Number) (n m : ℤ) (d e : ℕ) (r : Ordering) → number n d ≡ a → number m e ≡ b → Kept n d → Kept m e → r ≡ order_of a b → (r ≡ Equal) ↔ (a ≡ b)
cmp_equal a b n m d e r va vb ka kb h =
    (λ g. order_of-equal a b (kept-proper a n d va ka) (kept-proper b m e vb kb) (sym h ∙ g), λ g. h ∙ order_of-same a b g)

-- ---- a fraction from two whole numbers
pub any_bits_zero : (m : ℤ) → FitsSigned w64 m → of_z w64 m ≡ 0 → m ≡ pos 0
any_bits_zero (pos n) f h = ap pos h
any_bits_zero (negsuc n) f h = let p = f.sfits in absurd (omega arith)

pub new_zero : (n m : ℤ) → FitsSigned w64 m → of_z w64 m ≡ 0 → Err fault.ZeroDivisor ≡ checked_quotient (quotient_of (whole n) (whole m))
new_zero n m f h = quotient_zero (whole n) (whole m) m 1 refl (any_bits_zero m f h)

pub new_long : (n m x t : ℤ) (s p : ℕ) → FitsSigned w64 n → FitsSigned w64 m → (of_z w64 m ≡ 0 → ⊥) → x ≡ wrapped w64 n → s ≡ unsigned_abs (wrapped w64 m) → p ≡ s → FitsSigned w128 t → t ≡ turned (int_lt (wrapped w64 m) (pos 0)) (wrapped w128 x) → quotient_of (whole n) (whole m) ≡ Some (reduce (wrapped w128 t) p)
unfolding quotient_of
new_long n m x t s p fn fm h ex es ep ft et =
    quotient_by-turned n 1 m 1 (bits_other m h) ∙ sym (ap Some (ap₂ reduce top bottom))
  where
    size : (z : ℤ) → FitsSigned w64 z → unsigned_abs z ≤ 2 ^ 126
    size z f = omega (arith, ints)

    top : wrapped w128 t ≡ turned (int_lt m (pos 0)) (n *ℤ pos 1)
    top = to_z-of_z ft ∙ et ∙ ap₂ (λ (u v : ℤ). turned (int_lt u (pos 0)) v) (to_z-of_z fm) (ap (wrapped w128) (ex ∙ to_z-of_z fn) ∙ long_is n (size n fn) ∙ equal_by (signed n) (times (signed n) (natural 1)) (omega arith))

    bottom : p ≡ 1 * unsigned_abs m
    bottom = ep ∙ es ∙ ap unsigned_abs (to_z-of_z fm) ∙ omega arith
