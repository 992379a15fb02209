-- Lowest terms: a common factor cancels, and what is in lowest terms stays as it is.
use Rattle.std.proofs.Common.{◌≡◌, ℕ, zero, suc, ◌*◌, ◌/◌, ◌<◌, ℤ, pos, negsuc, ◌*ℤ◌, neg_ℤ, unsigned_abs, int_div, refl, sym, ap, ap₂, ◌∙◌, subst, subst₂, arith, eq-zero-or-pos, zero-mul, div-one, ◌⊎◌, inl, inr}
use Rattle.std.proofs.Math.Nat.{div-div-eq-div-mul, mul-div_cancel_left, zero-div}
use Rattle.std.proofs.lemmas.Int.{unsigned_abs-mul}
use Rattle.std.proofs.Math.IntN.{zero-*ℤ}
use Rattle.mf_fraction.specs.Gcd.{gcd}
use Rattle.mf_fraction.specs.Exact.{Number, Proper, whole, reduce}
use Rattle.mf_fraction.proofs.Divisors.{gcd-left, gcd-right, gcd-positive, gcd-scale, gcd-lowest, gcd_one}
use Rattle.mf_fraction.proofs.Signed.{signed, natural, times, negated, equal_by}

-- a number by its parts
abbrev pub number : ℤ → ℕ → Number
number n d = record { num = n; den = d }

unsigned_abs-neg : (m : ℕ) → unsigned_abs (neg_ℤ (pos m)) ≡ m
unsigned_abs-neg zero = refl
unsigned_abs-neg (suc m) = refl

unsigned_abs-quotient : (n : ℤ) (g : ℕ) → unsigned_abs (int_div n (pos g)) ≡ unsigned_abs n / g
unsigned_abs-quotient (pos a) g = refl
unsigned_abs-quotient (negsuc a) g = unsigned_abs-neg (suc a / g)

-- a division that leaves no rest
times-quotient : (n : ℤ) (g : ℕ) → g * (unsigned_abs n / g) ≡ unsigned_abs n → pos g *ℤ int_div n (pos g) ≡ n
times-quotient (pos a) g e = ap pos e
times-quotient (negsuc a) g e =
    equal_by (times (natural g) (negated (natural (suc a / g)))) (signed (negsuc a)) (omega (arith, e))

quotient-scale : (k m g : ℕ) → 0 < k → (k * m) / (k * g) ≡ m / g
quotient-scale k m g h =
    sym (div-div-eq-div-mul (k * m) k g) ∙ ap (λ (x : ℕ). x / g) (mul-div_cancel_left m h)

int_div-negated : (m g : ℕ) → int_div (neg_ℤ (pos m)) (pos g) ≡ neg_ℤ (pos (m / g))
int_div-negated zero g = ap pos (zero-div g) ∙ ap (λ (x : ℕ). neg_ℤ (pos x)) (sym (zero-div g))
int_div-negated (suc m) g = refl

int_div-scale : (k : ℕ) (n : ℤ) (g : ℕ) → 0 < k → int_div (pos k *ℤ n) (pos (k * g)) ≡ int_div n (pos g)
int_div-scale k (pos a) g h = ap pos (quotient-scale k a g h)
int_div-scale k (negsuc a) g h =
    int_div-negated (k * suc a) (k * g) ∙ ap (λ (x : ℕ). neg_ℤ (pos x)) (quotient-scale k (suc a) g h)

reduce-by : (n : ℤ) (d g : ℕ) → gcd (unsigned_abs n) d ≡ g → reduce n d ≡ number (int_div n (pos g)) (d / g)
unfolding reduce
reduce-by n d g e = ap (λ (x : ℕ). number (int_div n (pos x)) (d / x)) e

-- a common factor cancels
pub reduce-scale : (k : ℕ) (n : ℤ) (d : ℕ) → 0 < k → reduce (pos k *ℤ n) (k * d) ≡ reduce n d
reduce-scale k n d h =
    reduce-by (pos k *ℤ n) (k * d) (k * gcd (unsigned_abs n) d) common ∙ ap₂ number (int_div-scale k n (gcd (unsigned_abs n) d) h) (quotient-scale k d (gcd (unsigned_abs n) d) h) ∙ sym (reduce-by n d (gcd (unsigned_abs n) d) refl)
  where
    common : gcd (unsigned_abs (pos k *ℤ n)) (k * d) ≡ k * gcd (unsigned_abs n) d
    common = ap (λ (x : ℕ). gcd x (k * d)) (unsigned_abs-mul (pos k) n) ∙ gcd-scale k (unsigned_abs n) d h

-- the parts before the reduction
pub times-num : (n : ℤ) (d : ℕ) → pos (gcd (unsigned_abs n) d) *ℤ (reduce n d).num ≡ n
unfolding reduce
times-num n d = times-quotient n (gcd (unsigned_abs n) d) (gcd-left (unsigned_abs n) d)

pub times-den : (n : ℤ) (d : ℕ) → gcd (unsigned_abs n) d * (reduce n d).den ≡ d
unfolding reduce
times-den n d = gcd-right (unsigned_abs n) d

pub den-positive : (n : ℤ) (d : ℕ) → 0 < d → 0 < (reduce n d).den
den-positive n d h = some (gcd (unsigned_abs n) d) (reduce n d).den (subst (λ (x : ℕ). 0 < x) (sym (times-den n d)) h)
  where
    some : (g x : ℕ) → 0 < g * x → 0 < x
    some g zero h = absurd (omega arith)
    some g (suc x) h = omega arith

reduce-lowest : (n : ℤ) (d : ℕ) → 0 < d → gcd (unsigned_abs (reduce n d).num) (reduce n d).den ≡ 1
unfolding reduce
reduce-lowest n d h =
    ap (λ (x : ℕ). gcd x (d / gcd (unsigned_abs n) d)) (unsigned_abs-quotient n (gcd (unsigned_abs n) d)) ∙ gcd-lowest (unsigned_abs n) d (gcd-positive (unsigned_abs n) d h)

pub reduce-proper : (n : ℤ) (d : ℕ) → 0 < d → Proper (reduce n d)
reduce-proper n d h = record { lowest = reduce-lowest n d h; positive = den-positive n d h }

int_div-one : (n : ℤ) → int_div n (pos 1) ≡ n
int_div-one (pos a) = ap pos (div-one a)
int_div-one (negsuc a) = ap (λ (x : ℕ). neg_ℤ (pos x)) (div-one (suc a))

-- what is in lowest terms stays as it is
pub reduce_self : (a : Number) → Proper a → reduce a.num a.den ≡ a
reduce_self a p =
    reduce-by a.num a.den 1 p.lowest ∙ ap₂ number (int_div-one a.num) (div-one a.den)

-- a denominator of 1
pub whole-proper : (n : ℤ) → Proper (whole n)
whole-proper n = record { lowest = gcd_one (unsigned_abs n); positive = omega arith }

pub reduce_one : (n : ℤ) → reduce n 1 ≡ whole n
reduce_one n = reduce_self (whole n) (whole-proper n)

pub reduce_nothing : (d : ℕ) → 0 < d → reduce (pos 0) d ≡ whole (pos 0)
reduce_nothing d h =
    ap₂ reduce (sym (ap pos (omega arith))) (omega arith) ∙ reduce-scale d (pos 0) 1 h ∙ reduce_one (pos 0)

reduce_zeros : reduce (pos 0) 0 ≡ number (pos 0) 0
reduce_zeros = reduce-by (pos 0) 0 (gcd 0 0) refl ∙ ap₂ number (ap pos (zero-div (gcd 0 0))) (zero-div (gcd 0 0))

-- a reduction before an operation changes nothing in the reduced result, where the operation keeps a common factor
pub through : (top : ℤ → ℕ → ℤ) (bottom : ℕ → ℕ) → ((k : ℕ) (n : ℤ) (d : ℕ) → top (pos k *ℤ n) (k * d) ≡ pos k *ℤ top n d) → ((k d : ℕ) → bottom (k * d) ≡ k * bottom d) → (n : ℤ) (d : ℕ) → reduce (top (reduce n d).num (reduce n d).den) (bottom (reduce n d).den) ≡ reduce (top n d) (bottom d)
through top bottom keeps keep n d = by (eq-zero-or-pos (gcd (unsigned_abs n) d))
  where
    Claim : ℤ → ℕ → Type 0
    Claim n d = reduce (top (reduce n d).num (reduce n d).den) (bottom (reduce n d).den) ≡ reduce (top n d) (bottom d)

    by : (gcd (unsigned_abs n) d ≡ 0) ⊎ (0 < gcd (unsigned_abs n) d) → Claim n d
    by (inl e) =
        subst₂ Claim (sym (zero-*ℤ (reduce n d).num) ∙ ap (λ (x : ℕ). pos x *ℤ (reduce n d).num) (sym e) ∙ times-num n d) (sym (zero-mul (reduce n d).den) ∙ ap (λ (x : ℕ). x * (reduce n d).den) (sym e) ∙ times-den n d)
        (ap (λ (r : Number). reduce (top r.num r.den) (bottom r.den)) reduce_zeros)
    by (inr h) =
        sym (reduce-scale (gcd (unsigned_abs n) d) (top (reduce n d).num (reduce n d).den) (bottom (reduce n d).den) h)
        ∙ ap₂ reduce (sym (keeps (gcd (unsigned_abs n) d) (reduce n d).num (reduce n d).den) ∙ ap₂ top (times-num n d) (times-den n d)) (sym (keep (gcd (unsigned_abs n) d) (reduce n d).den) ∙ ap bottom (times-den n d))
