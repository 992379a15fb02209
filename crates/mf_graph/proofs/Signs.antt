-- Orders and signs of numbers, as the code reads them.
use Rattle.std.proofs.Common.{◌≡◌, ℕ, ◌≤◌, ◌^◌, ℤ, pos, ◌*ℤ◌, of_z, to_z, w64, unsigned_abs, Bool, true, false, Ordering, Less, Equal, Greater, refl, sym, ap, ap₂, ◌∙◌, arith}
use Rattle.std.specs.Prelude.{if◌then◌else◌, int_lt}
use Rattle.std.proofs.lemmas.Int.{ints, fits_signed_from_abs}
use Rattle.std.proofs.Math.Facts.{to_z-of_z}
use Rattle.mf_fraction.specs.Exact.{Number, is_below, order_of}
use Rattle.mf_fraction.proofs.OrderLaws.{order_of-is}
use Rattle.mf_task.specs.Layers.{zero_number}

times_one : (z : ℤ) → z *ℤ pos 1 ≡ z
times_one z = omega (arith, ints)

zero_times : (z : ℤ) → pos 0 *ℤ z ≡ pos 0
zero_times z = omega (arith, ints)

pub below_zero : (a : Number) → is_below a zero_number ≡ int_lt a.num (pos 0)
unfolding is_below
below_zero a = ap₂ int_lt (times_one a.num) (zero_times (pos a.den))

pub above_zero : (a : Number) → is_below zero_number a ≡ int_lt (pos 0) a.num
unfolding is_below
above_zero a = ap₂ int_lt (zero_times (pos a.den)) (times_one a.num)

abbrev pub is_less : Ordering → Bool
is_less Less = true
is_less Equal = false
is_less Greater = false

pub less_is : (a b : Number) → is_less (order_of a b) ≡ is_below a b
less_is a b = ap is_less (order_of-is a b) ∙ by (is_below a b) (is_below b a)
  where
    by : (s t : Bool) → is_less (if s then Less else (if t then Greater else Equal)) ≡ s
    by true t = refl
    by false true = refl
    by false false = refl

pub number_read : (n : ℤ) → unsigned_abs n ≤ 2 ^ 62 → to_z w64 (of_z w64 n) ≡ n
number_read n h = to_z-of_z (fits_signed_from_abs w64 n (omega arith))

pub is_Less : (a b : Number) (o : Ordering) → o ≡ order_of a b → o ≡ Less → true ≡ is_below a b
is_Less a b o e f = ap is_less (sym f ∙ e) ∙ less_is a b

pub is_Equal : (a b : Number) (o : Ordering) → o ≡ order_of a b → o ≡ Equal → false ≡ is_below a b
is_Equal a b o e f = ap is_less (sym f ∙ e) ∙ less_is a b

pub is_Greater : (a b : Number) (o : Ordering) → o ≡ order_of a b → o ≡ Greater → false ≡ is_below a b
is_Greater a b o e f = ap is_less (sym f ∙ e) ∙ less_is a b
