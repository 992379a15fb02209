-- The sign tells whether a number is 0.
use Rattle.std.proofs.Common.{◌≡◌, zero, suc, eqb, ℤ, pos, negsuc, ◌*ℤ◌, of_z, w8, Option, Some, refl, sym, ap, ◌∙◌, arith}
use Rattle.std.proofs.lemmas.Int.{ints}
use Rattle.std.proofs.lemmas.Bool.Decides.{nat_tests}
use Rattle.std.specs.Int.{int_signum}
use Rattle.std.specs.Ordering.{int_eq}
use Rattle.mf_fraction.specs.Exact.{Number, is_same, sign_of, whole}
use Rattle.mf_model.specs.declared.task.Op.{Op}
use Rattle.mf_model.specs.declared.task.Op.TheVariants.{ScaleDown}
use Rattle.mf_model.specs.Application.{divides_by_zero}

times_one : (z : ℤ) → z *ℤ pos 1 ≡ z
times_one z = omega (arith, ints)

zero_times : (z : ℤ) → pos 0 *ℤ z ≡ pos 0
zero_times z = omega (arith, ints)

is_zero : (z : ℤ) → eqb (of_z w8 (int_signum z)) 0 ≡ int_eq z (pos 0)
is_zero (pos zero) = refl
is_zero (pos (suc n)) = grind (arith, nat_tests)
is_zero (negsuc n) = refl

same_as_zero : (a : Number) → eqb (of_z w8 (sign_of a)) 0 ≡ is_same a (whole (pos 0))
unfolding is_same
same_as_zero a =
    is_zero a.num ∙ sym (ap (λ (z : ℤ). int_eq z (pos 0 *ℤ pos a.den)) (times_one a.num) ∙ ap (λ (z : ℤ). int_eq a.num z) (zero_times (pos a.den)))

pub sign-zero : (op : Op) (value : Option Number) (a : Number) (sign : ℤ) → op ≡ ScaleDown → value ≡ Some a → sign ≡ sign_of a → eqb (of_z w8 sign) 0 ≡ divides_by_zero op value
sign-zero op value a sign e f g = rw (e, f) (ap (λ (z : ℤ). eqb (of_z w8 z) 0) g ∙ same_as_zero a)
