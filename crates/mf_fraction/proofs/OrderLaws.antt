-- The laws of the order: its tests agree, it is total and transitive, and it is the sign of the difference.
use Rattle.std.proofs.Common.{◌≡◌, ℕ, zero, suc, ◌+◌, ◌*◌, ◌<◌, ◌≤◌, ℤ, pos, negsuc, ◌-ℤ◌, ◌*ℤ◌, unsigned_abs, int_lt, int_le, int_cmp, Bool, true, false, not, cond, ◌&&◌, if◌then◌else◌, Ordering, Less, Equal, Greater, is_eq, refl, sym, ap, ap₂, ◌∙◌, arith, true≢false, ◌↔◌, mul-le-mul_right, mul-lt-mul_of_pos_right, zero-mul, mul-pos}
use Rattle.std.proofs.Math.Nat.{lt_of_mul-lt-mul_right}
use Rattle.std.specs.Int.{int_signum}
use Rattle.std.proofs.lemmas.Int.{ints}
use Rattle.std.proofs.lemmas.Bool.Decides.{nat_tests}
use borrow.Author.Differences.{up, down}
use Rattle.mf_fraction.specs.Gcd.{gcd}
use Rattle.mf_fraction.specs.Exact.{Number, Proper, reduce, order_of, is_below, is_at_most, is_same, difference_of, sign_of, sign_at}
use Rattle.mf_fraction.proofs.Signed.{signed, natural, times, equal_by}
use Rattle.mf_fraction.proofs.Divisors.{gcd-positive}
use Rattle.mf_fraction.proofs.Reduced.{times-num}
use Rattle.mf_fraction.proofs.Comparisons.{same_test, int_lt-yes, int_lt-no, int_cmp-scale, int_cmp-same, int_cmp-equal, equal_from_cross}

-- ---- the tests
int_le-is : (x y : ℤ) → int_le x y ≡ not (int_lt y x)
int_le-is (pos a) (pos b) = grind (arith, nat_tests)
int_le-is (pos a) (negsuc b) = refl
int_le-is (negsuc a) (pos b) = refl
int_le-is (negsuc a) (negsuc b) = grind (arith, nat_tests)

pub is_at_most-is : (a b : Number) → is_at_most a b ≡ not (is_below b a)
unfolding is_at_most is_below
is_at_most-is a b = int_le-is (a.num *ℤ pos b.den) (b.num *ℤ pos a.den)

pub order_of-is : (a b : Number) → order_of a b ≡ (if is_below a b then Less else (if is_below b a then Greater else Equal))
unfolding order_of is_below
order_of-is a b = refl

pub is_same-is : (a b : Number) → is_same a b ≡ not (is_below a b) && not (is_below b a)
unfolding is_same is_below
is_same-is a b = by (int_lt (a.num *ℤ pos b.den) (b.num *ℤ pos a.den)) (int_lt (b.num *ℤ pos a.den) (a.num *ℤ pos b.den))
  where
    by : (s t : Bool) → is_eq (cond s Less (cond t Greater Equal)) ≡ not s && not t
    by true true = refl
    by true false = refl
    by false true = refl
    by false false = refl

pub equal_from_same : (a b : Number) → Proper a → Proper b → is_same a b ≡ true → a ≡ b
unfolding is_same
equal_from_same a b p q e =
    equal_from_cross a b p q (int_cmp-equal (a.num *ℤ pos b.den) (b.num *ℤ pos a.den) (by (int_cmp (a.num *ℤ pos b.den) (b.num *ℤ pos a.den)) e))
  where
    by : (o : Ordering) → is_eq o ≡ true → o ≡ Equal
    by Less h = absurd (true≢false (sym h))
    by Equal h = refl
    by Greater h = absurd (true≢false (sym h))

pub is_same-self : (a : Number) → is_same a a ≡ true
unfolding is_same
is_same-self a = ap is_eq (int_cmp-same (a.num *ℤ pos a.den))

pub is_below-self : (a : Number) → is_below a a ≡ false
unfolding is_below
is_below-self a = int_lt-no (a.num *ℤ pos a.den) (a.num *ℤ pos a.den) (omega (arith, ints))

trans : (ua da ub db uc dc p q r : ℕ) → 0 < r → ua * q + db * p < ub * p + da * q → ub * r + dc * q < uc * q + db * r → ua * r + dc * p < uc * p + da * r
trans ua da ub db uc dc p q r h f g =
    let one = mul-lt-mul_of_pos_right f h in
    let two : (ub * r + dc * q) * p ≤ (uc * q + db * r) * p = mul-le-mul_right p (omega arith) in
    lt_of_mul-lt-mul_right q (omega arith)

pub is_below-trans : (a b c : Number) → 0 < c.den → is_below a b ≡ true → is_below b c ≡ true → is_below a c ≡ true
unfolding is_below
is_below-trans a b c h p q =
    let t = trans (up a.num) (down a.num) (up b.num) (down b.num) (up c.num) (down c.num) a.den b.den c.den h (omega (arith, ints)) (omega (arith, ints)) in
    int_lt-yes (a.num *ℤ pos c.den) (c.num *ℤ pos a.den) (omega (arith, ints))

-- ---- the sign of a difference
int_lt-difference : (x y : ℤ) → int_lt (x -ℤ y) (pos 0) ≡ int_lt x y
int_lt-difference x y = same_test (int_lt x y) (int_lt (x -ℤ y) (pos 0)) yes no
  where
    yes : int_lt x y ≡ true → int_lt (x -ℤ y) (pos 0) ≡ true
    yes e = int_lt-yes (x -ℤ y) (pos 0) (omega (arith, ints))

    no : int_lt x y ≡ false → int_lt (x -ℤ y) (pos 0) ≡ false
    no e = int_lt-no (x -ℤ y) (pos 0) (omega (arith, ints))

difference-int_lt : (x y : ℤ) → int_lt (pos 0) (x -ℤ y) ≡ int_lt y x
difference-int_lt x y = same_test (int_lt y x) (int_lt (pos 0) (x -ℤ y)) yes no
  where
    yes : int_lt y x ≡ true → int_lt (pos 0) (x -ℤ y) ≡ true
    yes e = int_lt-yes (pos 0) (x -ℤ y) (omega (arith, ints))

    no : int_lt y x ≡ false → int_lt (pos 0) (x -ℤ y) ≡ false
    no e = int_lt-no (pos 0) (x -ℤ y) (omega (arith, ints))

-- the sign, from the order against 0
signum-is : (z : ℤ) → int_signum z ≡ sign_at (int_cmp z (pos 0))
signum-is (pos zero) = refl
signum-is (pos (suc n)) = grind (arith, nat_tests)
signum-is (negsuc n) = refl

pub int_cmp-difference : (x y : ℤ) → int_cmp (x -ℤ y) (pos 0) ≡ int_cmp x y
int_cmp-difference x y =
    ap₂ (λ (s t : Bool). cond s Less (cond t Greater Equal)) (int_lt-difference x y) (difference-int_lt x y)

-- a reduction keeps the order against 0
int_cmp-reduce : (n : ℤ) (d : ℕ) → 0 < d → int_cmp (reduce n d).num (pos 0) ≡ int_cmp n (pos 0)
int_cmp-reduce n d h =
    sym (int_cmp-scale (reduce n d).num (pos 0) (gcd (unsigned_abs n) d) (gcd-positive (unsigned_abs n) d h))
    ∙ ap₂ int_cmp (equal_by (times (signed (reduce n d).num) (natural (gcd (unsigned_abs n) d))) (times (natural (gcd (unsigned_abs n) d)) (signed (reduce n d).num)) (omega arith) ∙ times-num n d) (ap pos (zero-mul (gcd (unsigned_abs n) d)))

pub sign_of-difference : (a b : Number) → 0 < a.den → 0 < b.den → sign_of (difference_of a b) ≡ sign_at (order_of a b)
unfolding difference_of order_of
sign_of-difference a b p q =
    signum-is (difference_of a b).num
    ∙ ap sign_at (int_cmp-reduce (a.num *ℤ pos b.den -ℤ b.num *ℤ pos a.den) (a.den * b.den) (mul-pos p q) ∙ int_cmp-difference (a.num *ℤ pos b.den) (b.num *ℤ pos a.den))

-- a difference is negative exactly where the first number is below the second
pub below-difference : (a b : Number) → 0 < a.den → 0 < b.den → (is_below a b ≡ true) ↔ (sign_of (difference_of a b) ≡ negsuc 0)
unfolding is_below order_of
below-difference a b p q = along (by (int_lt (a.num *ℤ pos b.den) (b.num *ℤ pos a.den)) (int_lt (b.num *ℤ pos a.den) (a.num *ℤ pos b.den)))
  where
    by : (s t : Bool) → (s ≡ true) ↔ (sign_at (cond s Less (cond t Greater Equal)) ≡ negsuc 0)
    by true t = (λ _. refl, λ _. refl)
    by false true = (λ e. absurd (true≢false (sym e)), λ e. cc)
    by false false = (λ e. absurd (true≢false (sym e)), λ e. cc)

    along : (is_below a b ≡ true) ↔ (sign_at (order_of a b) ≡ negsuc 0) → (is_below a b ≡ true) ↔ (sign_of (difference_of a b) ≡ negsuc 0)
    along h = (λ e. sign_of-difference a b p q ∙ h.0 e, λ e. h.1 (sym (sign_of-difference a b p q) ∙ e))
