-- The linear form of an expression under a binding: a constant, and a coefficient for each changing term that it reads.
-- Coefficients 0 are kept. A constant function's term is its start value. There is none where the expression is undefined
-- in every state: where a constant function has no start value, or the divisor is 0.
use Rattle.std.specs.Prelude.{ℕ, pos, negsuc, Bool, if◌then◌else◌, nat_eq, nat_lt, List, [], ◌∷◌, map, Option, Some, None}
use Rattle.mf_fraction.specs.Exact.{Number, whole, sum_of, product_of, quotient_of}
use Rattle.mf_model.specs.declared.task.Expr.{Expr, fold-Expr}
use Rattle.mf_model.specs.declared.task.Expr.TheOpen.{Expr-F}
use Rattle.mf_model.specs.Meaning.{plus, times}
use Rattle.mf_model.specs.Views.{objects_of}
use Rattle.mf_task.specs.declared.form.Form.{Form}
use Rattle.mf_task.specs.declared.form.Part.{Part}

-- Arithmetic of forms

-- a part added to a list in term order, its coefficient to that of its term where there is one
abbrev pub with_part : List Part → Part → List Part
with_part [] p = p ∷ []
with_part (q ∷ qs) p =
    if nat_lt p.term q.term then p ∷ q ∷ qs
    else (if nat_eq p.term q.term then record { coefficient = sum_of q.coefficient p.coefficient; term = q.term } ∷ qs
    else q ∷ with_part qs p)

abbrev pub with_parts : List Part → List Part → List Part
with_parts qs [] = qs
with_parts qs (p ∷ ps) = with_parts (with_part qs p) ps

abbrev pub scaled_part : Number → Part → Part
scaled_part factor p = record { coefficient = product_of factor p.coefficient; term = p.term }

abbrev pub scaled_form : Number → Form → Form
scaled_form factor a = record { constant = product_of factor a.constant; parts = map (scaled_part factor) a.parts }

abbrev pub sum_form : Form → Form → Form
sum_form a b = record { constant = sum_of a.constant b.constant; parts = with_parts a.parts b.parts }

abbrev pub minus_one : Number
minus_one = whole (negsuc 0)

abbrev pub negative_form : Form → Form
negative_form a = scaled_form minus_one a

abbrev pub difference_form : Form → Form → Form
difference_form a b = sum_form a (negative_form b)

abbrev pub constant_form : Number → Form
constant_form a = record { constant = a; parts = [] }

-- one of the two reads no changing term; of other products there is no form
abbrev pub product_by : Form → Form → List Part → List Part → Option Form
product_by a b ps [] = Some (scaled_form b.constant a)
product_by a b [] (q ∷ qs) = Some (scaled_form a.constant b)
product_by a b (p ∷ ps) (q ∷ qs) = None

abbrev pub product_form : Form → Form → Option Form
product_form a b = product_by a b a.parts b.parts

abbrev pub scaled_by : Form → Option Number → Option Form
scaled_by a (Some factor) = Some (scaled_form factor a)
scaled_by a None = None

abbrev pub quotient_over : Form → Number → List Part → Option Form
quotient_over a divisor [] = scaled_by a (quotient_of (whole (pos 1)) divisor)
quotient_over a divisor (p ∷ ps) = None

-- the divisor reads no changing term
abbrev pub quotient_form : Form → Form → Option Form
quotient_form a b = quotient_over a b.constant b.parts

-- an operation on defined forms
abbrev pub with_forms : (Form → Form → Option Form) → Option Form → Option Form → Option Form
with_forms join (Some a) (Some b) = join a b
with_forms join (Some a) None = None
with_forms join None b = None

abbrev pub sum_forms : Option Form → Option Form → Option Form
sum_forms = with_forms (λ a b. Some (sum_form a b))

abbrev pub difference_forms : Option Form → Option Form → Option Form
difference_forms = with_forms (λ a b. Some (difference_form a b))

abbrev pub product_forms : Option Form → Option Form → Option Form
product_forms = with_forms product_form

abbrev pub quotient_forms : Option Form → Option Form → Option Form
quotient_forms = with_forms quotient_form

abbrev pub negative_forms : Option Form → Option Form
negative_forms (Some a) = Some (negative_form a)
negative_forms None = None

-- the parts taken from the left, two at a time
abbrev pub combined_forms : (Option Form → Option Form → Option Form) → Option Form → List (Option Form) → Option Form
combined_forms join a [] = a
combined_forms join a (b ∷ bs) = combined_forms join (join a b) bs

abbrev pub joined_forms : Number → (Option Form → Option Form → Option Form) → List (Option Form) → Option Form
joined_forms unit join [] = Some (constant_form unit)
joined_forms unit join (a ∷ others) = combined_forms join a others

-- Forms of expressions

-- what a form needs of a task: which functions are constant, their start values, and the number of each changing term
pub record Functions : Type 0 where
  pub is_constant : ℕ → Bool
  pub start : ℕ → List ℕ → Option Number
  pub term : ℕ → List ℕ → ℕ

abbrev pub started_form : Option Number → Option Form
started_form (Some a) = Some (constant_form a)
started_form None = None

abbrev pub term_form : ℕ → Form
term_form term = record { constant = whole (pos 0); parts = record { coefficient = whole (pos 1); term = term } ∷ [] }

abbrev pub function_form : Functions → ℕ → List ℕ → Option Form
function_form functions function objects =
    if functions.is_constant function then started_form (functions.start function objects) else Some (term_form (functions.term function objects))

abbrev pub form_step : Functions → Expr-F (List ℕ → Option Form) → List ℕ → Option Form
form_step functions (Expr-F.Number number) b = Some (constant_form number)
form_step functions (Expr-F.Function function terms) b = function_form functions function (objects_of b terms)
form_step functions (Expr-F.Sum parts) b = joined_forms (whole (pos 0)) sum_forms (map (λ part. part b) parts)
form_step functions (Expr-F.Difference left right) b = difference_forms (left b) (right b)
form_step functions (Expr-F.Negative part) b = negative_forms (part b)
form_step functions (Expr-F.Product parts) b = joined_forms (whole (pos 1)) product_forms (map (λ part. part b) parts)
form_step functions (Expr-F.Quotient left right) b = quotient_forms (left b) (right b)
form_step functions Expr-F.TotalTime b = None

-- only a metric reads the number of steps, and of it there is no form
abbrev pub form_of : Functions → Expr → List ℕ → Option Form
form_of functions = fold-Expr (List ℕ → Option Form) (form_step functions)

-- The exact value of a form

-- the products of the coefficients with the values of their terms, in term order, added up
abbrev pub weight : (ℕ → Option Number) → List Part → Option Number
weight value [] = Some (whole (pos 0))
weight value (p ∷ ps) = plus (times (Some p.coefficient) (value p.term)) (weight value ps)

-- undefined where a term is, one of coefficient 0 too
abbrev pub form_value : (ℕ → Option Number) → Form → Option Number
form_value value a = plus (Some a.constant) (weight value a.parts)

abbrev pub optional_form_value : (ℕ → Option Number) → Option Form → Option Number
optional_form_value value (Some a) = form_value value a
optional_form_value value None = None
