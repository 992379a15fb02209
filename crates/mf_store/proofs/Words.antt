-- What value a word keeps, class by class.
use Rattle.std.proofs.Common.{◌≡◌, refl, ap, ◌∙◌, ℕ, suc, ◌+◌, ◌-◌, ◌^◌, ◌<◌, ◌≤◌, true, false, ℤ, pos, negsuc, neg_ℤ, ◌-ℤ◌, unsigned_abs, int_lt, List, [], ◌∷◌, ◌++◌, length, slice_get, Some, None, Ok, arith, rules, tests, FitsSigned, to_z, of_z, to_z-of_z, w64}
use Rattle.std.proofs.Math.Facts.{to_z_pos}
use Rattle.std.proofs.lemmas.Int.{ints, fits_signed_from_abs}
use Rattle.std.proofs.lemmas.Bool.Decides.{nat_tests}
use Rattle.mf_fraction.specs.Checked.{checked}
use Rattle.mf_fraction.specs.Exact.{Number, whole, fits}
use Rattle.mf_store.specs.Packed.{value_of}

pub checked-whole : (n : ℤ) → unsigned_abs n ≤ 2 ^ 62 → checked (whole n) ≡ Ok (whole n)
unfolding checked fits
checked-whole n h = search (rules, tests)

pub number_read : (n : ℤ) → FitsSigned w64 n → to_z w64 (of_z w64 n) ≡ n
number_read n f = to_z-of_z f

pub natural_read : (n : ℕ) → n ≤ 2 ^ 62 → to_z w64 n ≡ pos n
natural_read n h = to_z_pos w64 (omega arith)

below_zero : (n : ℕ) → pos 0 -ℤ pos n ≡ neg_ℤ (pos n)
below_zero n = omega (arith, ints)

size_below_zero : (n : ℕ) → unsigned_abs (pos 0 -ℤ pos n) ≡ n
size_below_zero n = omega (arith, ints)

pub negative_read : (n : ℕ) → n ≤ 2 ^ 62 → to_z w64 (of_z w64 (pos 0 -ℤ to_z w64 n)) ≡ neg_ℤ (pos n)
negative_read n h =
    ap (λ (x : ℤ). to_z w64 (of_z w64 (pos 0 -ℤ x))) (natural_read n h)
    ∙ to_z-of_z (fits_signed_from_abs w64 (pos 0 -ℤ pos n) (omega (arith, size_below_zero n)))
    ∙ below_zero n

module _ (fs : List Number) (w : ℕ) where
  pub value_of-whole : w ≤ 2 ^ 62 → value_of fs w ≡ Some (whole (pos w))
  unfolding value_of
  value_of-whole h = search (rules, tests)

  pub value_of-none : 2 ^ 62 < w → w ≤ 2 ^ 63 → value_of fs w ≡ None
  unfolding value_of
  value_of-none h k = search (rules, tests)

  pub value_of-negative : 2 ^ 63 < w → w ≤ 2 ^ 63 + 2 ^ 62 → value_of fs w ≡ Some (whole (neg_ℤ (pos (w - 2 ^ 63))))
  unfolding value_of
  value_of-negative h k = search (rules, tests)

  pub value_of-fraction : 2 ^ 63 + 2 ^ 62 < w → value_of fs w ≡ slice_get fs (w - (2 ^ 63 + 2 ^ 62 + 1))
  unfolding value_of
  value_of-fraction h = search (rules, tests)

pub negative_word : (fs : List Number) (n : ℤ) (m : ℕ) → int_lt n (pos 0) ≡ true → m ≡ unsigned_abs n → unsigned_abs n ≤ 2 ^ 62 → value_of fs (2 ^ 63 + m) ≡ Some (whole n)
negative_word fs (pos k) m b e h = absurd (grind (arith, nat_tests))
negative_word fs (negsuc k) m b e h =
    value_of-negative fs (2 ^ 63 + m) (omega arith) (omega arith)
    ∙ ap (λ j. Some (whole (neg_ℤ (pos j)))) (let same : 2 ^ 63 + m - 2 ^ 63 ≡ suc k = omega arith in same)

pub natural_word : (fs : List Number) (n : ℤ) → int_lt n (pos 0) ≡ false → unsigned_abs n ≤ 2 ^ 62 → value_of fs (unsigned_abs n) ≡ Some (whole n)
natural_word fs (pos k) b h = value_of-whole fs k h
natural_word fs (negsuc k) b h = cc

slice_get-last : {X : Type 0} (xs : List X) (x : X) → slice_get (xs ++ x ∷ []) (length xs) ≡ Some x
slice_get-last [] x = refl
slice_get-last (y ∷ xs) x = slice_get-last xs x

-- the word of the fraction that was added last
pub last_word : (fs : List Number) (f : Number) (n : ℕ) → n ≡ length fs → value_of (fs ++ f ∷ []) (2 ^ 63 + 2 ^ 62 + 1 + n) ≡ Some f
last_word fs f n e =
    value_of-fraction (fs ++ f ∷ []) (2 ^ 63 + 2 ^ 62 + 1 + n) (omega arith)
    ∙ ap (slice_get (fs ++ f ∷ [])) (let same : 2 ^ 63 + 2 ^ 62 + 1 + n - (2 ^ 63 + 2 ^ 62 + 1) ≡ length fs = omega arith in same)
    ∙ slice_get-last fs f
