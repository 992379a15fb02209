-- What an operation answers, as the value that fits.
use Rattle.std.proofs.Common.{◌≡◌, ℕ, Bool, true, false, if◌then◌else◌, ◌&&◌, List, [], ◌∷◌, Option, Some, None, Result, Ok, Err, IfErr, refl, ap, ◌∙◌}
use Rattle.std.specs.Prelude.{is_some}
use Rattle.mf_fraction.specs.declared.faults.Wide.{Wide}
use Rattle.mf_fraction.specs.declared.faults.DivFault.{DivFault}
use Rattle.mf_fraction.specs.declared.faults.DivFault.TheVariants as fault
use Rattle.mf_fraction.specs.Checked.{checked, checked_quotient, wide}
use Rattle.mf_fraction.specs.Exact.{Number, fits, sum_of, difference_of, product_of}
use Rattle.mf_model.specs.declared.task.Op.{Op}
use Rattle.mf_model.specs.declared.task.Op.TheVariants.{Increase, Decrease, ScaleUp}
use Rattle.mf_model.specs.Application.{new_value}
use Rattle.mf_model.specs.Meaning.{plus, times}
use Rattle.mf_task.specs.declared.form.Form.{Form}
use Rattle.mf_task.specs.declared.form.Part.{Part}
use Rattle.mf_task.specs.LinearForms.{form_value, weight}
use Rattle.mf_task.specs.Width as width
use Rattle.mf_state.specs.Answers.{answer_of, as_defined, kept}

defined_where : (b : Bool) (a : Number) → as_defined (if b then Ok a else Err wide) ≡ (if b then Ok (Some a) else Err wide)
defined_where true a = refl
defined_where false a = refl

as_defined-checked : (a : Number) → as_defined (checked a) ≡ kept (Some a)
unfolding checked
as_defined-checked a = defined_where (fits a) a

-- a quotient, by whether it fits
quotient_where : Bool → Number → Result Number DivFault
quotient_where b a = if b then Ok a else Err fault.Wide

kept_where : Bool → Number → Result (Option Number) Wide
kept_where b a = if b then Ok (Some a) else Err wide

ok_where : (b : Bool) (a v : Number) → quotient_where b a ≡ Ok v → Ok (Some v) ≡ kept_where b a
unfolding quotient_where kept_where
ok_where true a v e = cc
ok_where false a v e = cc

pub kept-quotient : (q : Option Number) (v : Number) → checked_quotient q ≡ Ok v → Ok (Some v) ≡ kept q
unfolding checked_quotient quotient_where kept_where
kept-quotient None v e = cc
kept-quotient (Some a) v e = ok_where (fits a) a v e

zero_where : (b : Bool) (a : Number) → quotient_where b a ≡ Err fault.ZeroDivisor → Ok None ≡ kept_where b a
unfolding quotient_where kept_where
zero_where true a e = cc
zero_where false a e = cc

pub kept-zero : (q : Option Number) → checked_quotient q ≡ Err fault.ZeroDivisor → Ok None ≡ kept q
unfolding checked_quotient quotient_where kept_where
kept-zero None e = refl
kept-zero (Some a) e = zero_where (fits a) a e

wide_where : (b : Bool) (a : Number) → quotient_where b a ≡ Err fault.Wide → Err wide ≡ kept_where b a
unfolding quotient_where kept_where
wide_where true a e = cc
wide_where false a e = refl

pub kept-wide : (q : Option Number) → checked_quotient q ≡ Err fault.Wide → Err wide ≡ kept q
unfolding checked_quotient quotient_where kept_where
kept-wide None e = cc
kept-wide (Some a) e = wide_where (fits a) a e

-- an operation on defined values, as the code does it
module _ (op : Op) (a b : Number) (r : Result Number Wide) (d : Result (Option Number) Wide) (def : d ≡ as_defined r) where
  pub combined_sum : op ≡ Increase → r ≡ checked (sum_of a b) → d ≡ kept (new_value op (Some a) (Some b))
  combined_sum o e = rw o (def ∙ ap as_defined e ∙ as_defined-checked (sum_of a b))

  pub combined_difference : op ≡ Decrease → r ≡ checked (difference_of a b) → d ≡ kept (new_value op (Some a) (Some b))
  combined_difference o e = rw o (def ∙ ap as_defined e ∙ as_defined-checked (difference_of a b))

  pub combined_product : op ≡ ScaleUp → r ≡ checked (product_of a b) → d ≡ kept (new_value op (Some a) (Some b))
  combined_product o e = rw o (def ∙ ap as_defined e ∙ as_defined-checked (product_of a b))

-- a form that is wide is defined

defined_by : (c : Number) (o rest : Option Number) (b : Bool) → (b ≡ true → is_some rest ≡ true) → (is_some o && b) ≡ true → is_some (plus (times (Some c) o) rest) ≡ true
defined_by c None rest b some e = cc
defined_by c (Some v) (Some w) b some e = refl
defined_by c (Some v) None b some e = some e

weight-defined : (value : ℕ → Option Number) (ps : List Part) → width.all_defined value ps ≡ true → is_some (weight value ps) ≡ true
weight-defined value [] e = refl
weight-defined value (p ∷ ps) e = defined_by p.coefficient (value p.term) (weight value ps) (width.all_defined value ps) (weight-defined value ps) e

sum-defined : (a : Number) (o : Option Number) → is_some o ≡ true → is_some (plus (Some a) o) ≡ true
sum-defined a None e = cc
sum-defined a (Some b) e = refl

pub wide_is_defined : (value : ℕ → Option Number) (form : Form) (r : Result (Option Number) Wide) → r ≡ answer_of (width.bounded_value value form) → IfErr r (λ _. is_some (form_value value form) ≡ true)
wide_is_defined value form (Ok x) e = tt
wide_is_defined value form (Err f) e = by (width.all_defined value form.parts) refl e
  where
    by : (b : Bool) → width.all_defined value form.parts ≡ b → Err f ≡ answer_of (if b then width.added_up value form.constant form.parts else width.Undefined) → is_some (form_value value form) ≡ true
    by true d _ = sum-defined form.constant (weight value form.parts) (weight-defined value form.parts d)
    by false d g = cc
