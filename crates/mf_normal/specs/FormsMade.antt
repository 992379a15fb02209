-- What the code answers of a form: the form, where it and those of all subexpressions fit.
use Rattle.std.specs.Prelude.{◌≡◌, pos, true, false, Option, Some, IfSome, Result, Ok, Err}
use Rattle.mf_fraction.specs.Exact.{Number, whole}
use Rattle.mf_task.specs.declared.form.Form.{Form}
use Rattle.mf_task.specs.LinearForms.{difference_form, product_form, quotient_form, sum_form, with_forms}
use Rattle.mf_task.specs.WideForms.{Formed, form_fits}
use Rattle.mf_normal.specs.declared.arithmetic.Operation.{Operation}
use Rattle.mf_normal.specs.declared.arithmetic.Operation.TheVariants.{Sum, Difference, Product, Quotient}
use Rattle.mf_normal.specs.declared.fault.FormFault.{FormFault}
use Rattle.mf_normal.specs.declared.fault.FormFault.TheVariants.{Wide, Memory}
use Rattle.mf_normal.specs.FormParts.{IsRising}

-- in strict order of its terms, and each number fits
pub record IsKept (a : Form) : Type 0 where
  pub rising : IsRising a.parts
  pub narrow : form_fits a ≡ true

-- the form that was made, or that it does not fit
abbrev pub MakesForm : Form → Result Form FormFault → Type 0
MakesForm form (Ok made) = (made ≡ form) × IsKept form
MakesForm form (Err Wide) = form_fits form ≡ false
MakesForm form (Err Memory) = Unit {0}

-- the form of an expression, where it and those of all subexpressions fit
abbrev pub Makes : Formed → Result (Option Form) FormFault → Type 0
Makes formed (Ok form) = (formed ≡ record { form = form; fits = true }) × IfSome form IsKept
Makes formed (Err Wide) = formed.fits ≡ false
Makes formed (Err Memory) = Unit {0}

abbrev pub as_defined : Result Form FormFault → Result (Option Form) FormFault
as_defined (Ok form) = Ok (Some form)
as_defined (Err fault) = Err fault

abbrev pub joined_by : Operation → Form → Form → Option Form
joined_by Sum a b = Some (sum_form a b)
joined_by Difference a b = Some (difference_form a b)
joined_by Product a b = product_form a b
joined_by Quotient a b = quotient_form a b

abbrev pub join_of : Operation → Option Form → Option Form → Option Form
join_of operation = with_forms (joined_by operation)

-- what the operation gives where there are no parts
abbrev pub unit_of : Operation → Number
unit_of Sum = whole (pos 0)
unit_of Difference = whole (pos 0)
unit_of Product = whole (pos 1)
unit_of Quotient = whole (pos 0)
