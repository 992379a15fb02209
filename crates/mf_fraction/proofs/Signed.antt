-- Equations between signed numbers: each number is read as a difference of two natural numbers.
use Rattle.std.proofs.Common.{◌≡◌, ℕ, ◌+◌, ◌*◌, ℤ, pos, ◌+ℤ◌, ◌-ℤ◌, ◌*ℤ◌, neg_ℤ, ap, arith}
use borrow.Author.Differences.{up, down, same_in, product_is, sum_is_lem, neg_is}

-- z is a - b
pub record Is (z : ℤ) (a b : ℕ) : Type 0 where
  pub is : up z + b ≡ down z + a

pub signed : (z : ℤ) → Is z (up z) (down z)
signed z = record { is = omega arith }

pub natural : (n : ℕ) → Is (pos n) n 0
natural n = record { is = omega arith }

pub plus : {x y : ℤ} {a b c d : ℕ} → Is x a b → Is y c d → Is (x +ℤ y) (a + c) (b + d)
plus {x} {y} p q = record { is = omega (arith, sum_is_lem x y, p.is, q.is) }

pub negated : {x : ℤ} {a b : ℕ} → Is x a b → Is (neg_ℤ x) b a
negated {x} p = record { is = omega (arith, neg_is x, p.is) }

pub minus : {x y : ℤ} {a b c d : ℕ} → Is x a b → Is y c d → Is (x -ℤ y) (a + d) (b + c)
minus p q = plus p (negated q)

pub times : {x y : ℤ} {a b c d : ℕ} → Is x a b → Is y c d → Is (x *ℤ y) (a * c + b * d) (a * d + b * c)
times {x} {y} {a} {b} {c} {d} p q = record { is = joined (up x) (down x) (up y) (down y) a b c d _ _ (product_is x y).0 (product_is x y).1 p.is q.is }
  where
    joined : (u v s t a b c d m n : ℕ) → m ≡ u * s + v * t → n ≡ u * t + v * s → u + b ≡ v + a → s + d ≡ t + c → m + (a * d + b * c) ≡ n + (a * c + b * d)
    joined u v s t a b c d m n e f g h =
        omega (arith, ap (λ (k : ℕ). k * s) g, ap (λ (k : ℕ). k * t) g, ap (λ (k : ℕ). a * k) h, ap (λ (k : ℕ). b * k) h)

-- two numbers are equal where their differences are
pub equal_by : {x y : ℤ} {a b c d : ℕ} → Is x a b → Is y c d → a + d ≡ c + b → x ≡ y
equal_by {x} {y} p q e = same_in x y (omega (arith, p.is, q.is))
