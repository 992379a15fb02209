-- The greatest common divisor: it divides both numbers, and a common factor can be taken out of it.
use Rattle.std.proofs.Common.{◌≡◌, ℕ, zero, suc, ◌+◌, ◌*◌, ◌/◌, ◌%◌, ◌<◌, refl, sym, ap, ◌∙◌, subst, arith, mul-zero}
use Rattle.std.proofs.Math.Nat.{div-add-mod, mul-div_cancel', mul-lt-mul_of_pos_left, eq_of_mul-eq-mul_left}
use Rattle.std.specs.Int.{IsGcd}
use Rattle.std.proofs.lemmas.Nat.{mod-mul-add}
use Rattle.std.proofs.lemmas.Nat.Gcd.{IsGcd-from_zero, IsGcd-from_mod}
use Rattle.mf_fraction.specs.Gcd.{gcd, gcd_within}

-- steps beyond the second number change nothing
gcd_within-enough : (n m a b : ℕ) → b < n → b < m → gcd_within n a b ≡ gcd_within m a b
gcd_within-enough zero m a b p q = absurd (omega arith)
gcd_within-enough (suc n) zero a b p q = absurd (omega arith)
gcd_within-enough (suc n) (suc m) a zero p q = refl
gcd_within-enough (suc n) (suc m) a (suc b) p q =
    gcd_within-enough n m (suc b) (a % suc b) (omega arith) (omega arith)

pub gcd_zero : (a : ℕ) → gcd a 0 ≡ a
unfolding gcd
gcd_zero a = refl

pub gcd-step : (a b : ℕ) → 0 < b → gcd a b ≡ gcd b (a % b)
unfolding gcd
gcd-step a zero h = absurd (omega arith)
gcd-step a (suc b) h =
    gcd_within-enough (suc b) (suc (a % suc b)) (suc b) (a % suc b) (omega arith) (omega arith)

gcd_within-is : (n a b : ℕ) → b < n → IsGcd a b (gcd_within n a b)
gcd_within-is zero a b p = absurd (omega arith)
gcd_within-is (suc n) a zero p = IsGcd-from_zero a zero refl
gcd_within-is (suc n) a (suc b) p =
    IsGcd-from_mod a (suc b) (gcd_within n (suc b) (a % suc b)) (gcd_within-is n (suc b) (a % suc b) (omega arith))

-- it is the greatest common divisor
pub gcd-is : (a b : ℕ) → IsGcd a b (gcd a b)
unfolding gcd
gcd-is a b = gcd_within-is (suc b) a b (omega arith)

pub gcd-left : (a b : ℕ) → gcd a b * (a / gcd a b) ≡ a
gcd-left a b = mul-div_cancel' (gcd a b) ((gcd-is a b).0)

pub gcd-right : (a b : ℕ) → gcd a b * (b / gcd a b) ≡ b
gcd-right a b = mul-div_cancel' (gcd a b) ((gcd-is a b).1)

pub gcd-positive : (a b : ℕ) → 0 < b → 0 < gcd a b
gcd-positive a b h = grind (arith, gcd-right a b)

mod-scale : (k a b : ℕ) → 0 < k → 0 < b → (k * a) % (k * b) ≡ k * (a % b)
mod-scale k a b h p =
    let e : k * a ≡ (a / b) * (k * b) + k * (a % b) = spread k b (a / b) (a % b) a (div-add-mod a b) in
    ap (λ (x : ℕ). x % (k * b)) e ∙ mod-mul-add (a / b) (k * b) (k * (a % b)) (mul-lt-mul_of_pos_left (below a b p) h)
  where
    spread : (k b q r a : ℕ) → b * q + r ≡ a → k * a ≡ q * (k * b) + k * r
    spread k b q r a e = ap (λ (x : ℕ). k * x) (sym e) ∙ omega arith

    below : (a b : ℕ) → 0 < b → a % b < b
    below a b h = omega arith

gcd_within-scale : (k n a b : ℕ) → 0 < k → b < n → gcd (k * a) (k * b) ≡ k * gcd_within n a b
gcd_within-scale k zero a b h p = absurd (omega arith)
gcd_within-scale k (suc n) a zero h p = ap (gcd (k * a)) (mul-zero k) ∙ gcd_zero (k * a)
gcd_within-scale k (suc n) a (suc b) h p =
    gcd-step (k * a) (k * suc b) (some k b h) ∙ ap (gcd (k * suc b)) (mod-scale k a (suc b) h (omega arith)) ∙ gcd_within-scale k n (suc b) (a % suc b) h (omega arith)
  where
    some : (k b : ℕ) → 0 < k → 0 < k * suc b
    some zero b h = absurd (omega arith)
    some (suc k) b h = omega arith

-- a common factor can be taken out
pub gcd-scale : (k a b : ℕ) → 0 < k → gcd (k * a) (k * b) ≡ k * gcd a b
unfolding gcd
gcd-scale k a b h = gcd_within-scale k (suc b) a b h (omega arith)

-- what is left of the two numbers has no common divisor
pub gcd-lowest : (a b : ℕ) → 0 < gcd a b → gcd (a / gcd a b) (b / gcd a b) ≡ 1
gcd-lowest a b h = alone (gcd a b) (gcd (a / gcd a b) (b / gcd a b)) h whole
  where
    whole : gcd a b * gcd (a / gcd a b) (b / gcd a b) ≡ gcd a b
    whole = sym (gcd-scale (gcd a b) (a / gcd a b) (b / gcd a b) h) ∙ ap (λ (x : ℕ). gcd x (gcd a b * (b / gcd a b))) (gcd-left a b) ∙ ap (gcd a) (gcd-right a b)

    alone : (g x : ℕ) → 0 < g → g * x ≡ g → x ≡ 1
    alone g x h e = eq_of_mul-eq-mul_left g h x 1 (e ∙ omega arith)

pub gcd_one : (a : ℕ) → gcd a 1 ≡ 1
gcd_one a = gcd-step a 1 (omega arith) ∙ ap (gcd 1) (nothing a) ∙ gcd_zero 1
  where
    nothing : (a : ℕ) → a % 1 ≡ 0
    nothing a = omega arith

-- a step of Euclid's loop, and its end
pub gcd-more : (x y g : ℕ) → 0 < y → gcd x y ≡ g → gcd y (x % y) ≡ g
gcd-more x y g h e = sym (gcd-step x y h) ∙ e

pub gcd-done : (x y g : ℕ) → y ≡ 0 → gcd x y ≡ g → x ≡ g
gcd-done x y g z e = sym (gcd_zero x) ∙ ap (gcd x) (sym z) ∙ e

pub gcd-quotient : (a b : ℕ) → 0 < b → 0 < b / gcd a b
gcd-quotient a b h = some (gcd a b) (b / gcd a b) (subst (λ (x : ℕ). 0 < x) (sym (gcd-right a b)) h)
  where
    some : (g x : ℕ) → 0 < g * x → 0 < x
    some g zero h = absurd (omega arith)
    some g (suc x) h = omega arith
