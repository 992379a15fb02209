-- Values of forms within the width, computed.
use Rattle.std.proofs.Common.{◌≡◌, ℕ, ◌^◌, pos, negsuc, nat_eq, if◌then◌else◌, [], ◌∷◌, Option, Some, None, refl}
use Rattle.mf_fraction.specs.Gcd.{gcd}
use Rattle.mf_fraction.specs.Exact.{Number, whole, reduce, sum_of, product_of, fits}
use Rattle.mf_task.specs.declared.form.Form.{Form}
use Rattle.mf_task.specs.declared.form.Part.{Part}
use Rattle.mf_task.specs.LinearForms.{form_value}
use Rattle.mf_task.specs.Width.{Undefined, Wide, Exact, bounded_value}

abbrev part : Number → ℕ → Part
part coefficient term = record { coefficient = coefficient; term = term }

-- term 0 has the value 2^61, term 1 the value 1, others none
abbrev value : ℕ → Option Number
value term = if nat_eq term 0 then Some (whole (pos (2 ^ 61))) else (if nat_eq term 1 then Some (whole (pos 1)) else None)

-- 2 * 2^61 fits, 4 * 2^61 does not
abbrev scaled : ℕ → Form
scaled n = record { constant = whole (pos 0); parts = part (whole (pos n)) 0 ∷ [] }

fitting : bounded_value value (scaled 2) ≡ Exact (whole (pos (2 ^ 62)))
unfolding fits sum_of product_of reduce gcd
fitting = refl

wide_product : bounded_value value (scaled 4) ≡ Wide
unfolding fits sum_of product_of reduce gcd
wide_product = refl

-- 2^62 + 1 - 1: a partial sum does not fit, though the value does
abbrev there_and_back : Form
there_and_back = record { constant = whole (pos (2 ^ 62)); parts = part (whole (pos 1)) 1 ∷ part (whole (negsuc 0)) 1 ∷ [] }

wide_sum : bounded_value value there_and_back ≡ Wide
unfolding fits sum_of product_of reduce gcd
wide_sum = refl

exact_value : form_value value there_and_back ≡ Some (whole (pos (2 ^ 62)))
unfolding sum_of product_of reduce gcd
exact_value = refl

-- undefined comes before wide, also by a term of coefficient 0
undefined : bounded_value value (record { constant = whole (pos 0); parts = part (whole (pos 4)) 0 ∷ part (whole (pos 0)) 2 ∷ [] }) ≡ Undefined
unfolding fits sum_of product_of reduce gcd
undefined = refl
