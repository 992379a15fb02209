-- Sums and products of numbers that stop at a greatest one.
use Rattle.std.proofs.Common.{◌≡◌, sym, ◌∙◌, ap, ℕ, zero, suc, ◌+◌, ◌*◌, ◌<◌, ◌≤◌, ◌⊎◌, inl, inr, min, arith}
use Rattle.std.proofs.Math.Nat.{mul_comm, mul_assoc}
use Rattle.std.proofs.lemmas.Bool.{cases_lt}

past : (m y k : ℕ) → m < y → min (m * suc k) m ≡ min (y * suc k) m
past m y k h =
    let low : m ≤ m * suc k = omega arith in
    let high : m ≤ y * suc k = omega arith in
    omega arith

-- a factor that stops at m gives the same product that stops there
pub min_factor : (m y w : ℕ) → min (min y m * w) m ≡ min (y * w) m
min_factor m y zero = omega arith
min_factor m y (suc k) = by (cases_lt m y)
  where
    by : (m < y) ⊎ (y ≤ m) → min (min y m * suc k) m ≡ min (y * suc k) m
    by (inl h) =
        let is : min y m ≡ m = omega arith in
        ap (λ (n : ℕ). min (n * suc k) m) is ∙ past m y k h
    by (inr h) =
        let is : min y m ≡ y = omega arith in
        ap (λ (n : ℕ). min (n * suc k) m) is

pub min_times : (m w p : ℕ) → min (min w m * min p m) m ≡ min (w * p) m
min_times m w p =
    min_factor m w (min p m)
    ∙ ap (λ (n : ℕ). min n m) (mul_comm w (min p m))
    ∙ min_factor m p w
    ∙ ap (λ (n : ℕ). min n m) (mul_comm p w)

pub min_times_one : (m w p t : ℕ) → t ≡ min (min w m * min p m) m → min (t + 1) m ≡ min (1 + w * p) m
min_times_one m w p t is =
    let e : t ≡ min (w * p) m = is ∙ min_times m w p in
    omega arith

-- one more factor of a product whose other factors are still to come
pub min_step : (m b n w : ℕ) → min (min (b * n) m * w) m ≡ min (b * (n * w)) m
min_step m b n w = min_factor m (b * n) w ∙ ap (λ (k : ℕ). min k m) (mul_assoc b n w)

-- The same of numbers that are such products: b and n stop at m, t is their product

pub product_is : (m w p b n t : ℕ) → b ≡ min w m → n ≡ min p m → t ≡ min (b * n) m → t ≡ min (w * p) m
product_is m w p b n t e f g = g ∙ ap (λ (x : ℕ). min (x * n) m) e ∙ ap (λ (x : ℕ). min (min w m * x) m) f ∙ min_times m w p

pub one_more : (m w p b n t s : ℕ) → b ≡ min w m → n ≡ min p m → t ≡ min (b * n) m → s ≡ min (t + 1) m → s ≡ min (1 + w * p) m
one_more m w p b n t s e f g h =
    let is : t ≡ min (w * p) m = product_is m w p b n t e f g in
    omega arith

pub multiplied : (m b n w r whole total : ℕ) → r ≡ min (b * n) m → whole ≡ n * w → min (b * whole) m ≡ total → min (r * w) m ≡ total
multiplied m b n w r whole total e f g =
    ap (λ (x : ℕ). min (x * w) m) e ∙ min_step m b n w ∙ ap (λ (x : ℕ). min (b * x) m) (sym f) ∙ g
