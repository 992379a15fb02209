-- Checked operations as bounds.
use Rattle.std.proofs.Common.{◌≡◌, Bool, true, false, if◌then◌else◌, Option, Some, None, Result, Ok, Err, refl, sym, ap, ◌∙◌, pos}
use Rattle.mf_fraction.specs.declared.faults.Wide.{Wide}
use Rattle.mf_fraction.specs.Checked.{checked, wide}
use Rattle.mf_fraction.specs.Exact.{Number, fits, whole}
use Rattle.mf_task.specs.Layers.{Bound, Finite, Endless, if_it_fits, zero_number}
use Rattle.mf_graph.specs.Bounds.{of_outcome}

of_where : (b : Bool) (a : Number) → of_outcome (if b then Ok a else Err wide) ≡ (if b then Finite a else Endless)
of_where true a = refl
of_where false a = refl

pub of_checked : (a : Number) → of_outcome (checked a) ≡ if_it_fits a
unfolding checked
of_checked a = of_where (fits a) a

pub kept_is : (outcome : Result Number Wide) (a : Number) → outcome ≡ checked a → of_outcome outcome ≡ if_it_fits a
kept_is outcome a e = ap of_outcome e ∙ of_checked a

same_finite : {a b : Number} → Finite a ≡ Finite b → a ≡ b
same_finite e = cc

finite_is_not_endless : (a : Number) → Finite a ≡ Endless → ⊥
finite_is_not_endless a e = cc

-- the numbers 0 and 1

zero_fits : checked zero_number ≡ Ok zero_number
unfolding checked fits
zero_fits = refl

one_fits : checked (whole (pos 1)) ≡ Ok (whole (pos 1))
unfolding checked fits
one_fits = refl

pub zero_is : (a : Number) → checked zero_number ≡ Ok a → a ≡ zero_number
zero_is a e = same_finite (ap of_outcome (sym e ∙ zero_fits))

pub one_is : (a : Number) → checked (whole (pos 1)) ≡ Ok a → a ≡ whole (pos 1)
one_is a e = same_finite (ap of_outcome (sym e ∙ one_fits))

pub zero_is_not_wide : (fault : Wide) → checked zero_number ≡ Err fault → ⊥
zero_is_not_wide fault e = finite_is_not_endless zero_number (ap of_outcome (sym zero_fits ∙ e))

pub one_is_not_wide : (fault : Wide) → checked (whole (pos 1)) ≡ Err fault → ⊥
one_is_not_wide fault e = finite_is_not_endless (whole (pos 1)) (ap of_outcome (sym one_fits ∙ e))
