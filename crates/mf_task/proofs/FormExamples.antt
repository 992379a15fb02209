-- Linear forms of expressions, computed. Functions 0 and 1 change, and their terms are those of numbers 0 and 1; function 2
-- is constant, with the value 5.
use Rattle.std.proofs.Common.{◌≡◌, ℕ, pos, negsuc, nat_eq, [], ◌∷◌, Some, None, rules}
use Rattle.mf_fraction.specs.Gcd.{gcd}
use Rattle.mf_fraction.specs.Exact.{Number, whole, reduce, sum_of, product_of, quotient_by, quotient_of}
use Rattle.mf_model.specs.declared.task.Expr.{Expr, the_lemmas}
use Rattle.mf_model.specs.declared.task.Expr.TheVariants as expr
use Rattle.mf_task.specs.declared.form.Part.{Part}
use Rattle.mf_task.specs.LinearForms.{Functions, form_of}

abbrev functions : Functions
functions = record { is_constant = nat_eq 2; start = λ function objects. Some (whole (pos 5)); term = λ function objects. function }

abbrev number : ℕ → Expr
number n = expr.Number (whole (pos n))

abbrev x : Expr
x = expr.Function 0 []

abbrev y : Expr
y = expr.Function 1 []

abbrev five : Expr
five = expr.Function 2 []

abbrev part : Number → ℕ → Part
part coefficient term = record { coefficient = coefficient; term = term }

-- `(- (x) 3)`
less_three : form_of functions (expr.Difference x (number 3)) [] ≡ Some (record { constant = whole (negsuc 2); parts = part (whole (pos 1)) 0 ∷ [] })
unfolding sum_of product_of reduce gcd
less_three = search (rules, the_lemmas)

-- `(* 2 (x))`
doubled : form_of functions (expr.Product (number 2 ∷ x ∷ [])) [] ≡ Some (record { constant = whole (pos 0); parts = part (whole (pos 2)) 0 ∷ [] })
unfolding sum_of product_of reduce gcd
doubled = search (rules, the_lemmas)

-- `(- (+ (y) (x)) (x))`: terms come in their order, and the coefficient 0 is kept
kept : form_of functions (expr.Difference (expr.Sum (y ∷ x ∷ [])) x) [] ≡ Some (record { constant = whole (pos 0); parts = part (whole (pos 0)) 0 ∷ part (whole (pos 1)) 1 ∷ [] })
unfolding sum_of product_of reduce gcd
kept = search (rules, the_lemmas)

-- `(/ (x) (five))`: a constant function is its start value
divided : form_of functions (expr.Quotient x five) [] ≡ Some (record { constant = whole (pos 0); parts = part (record { num = pos 1; den = 5 }) 0 ∷ [] })
unfolding sum_of product_of reduce gcd quotient_of quotient_by
divided = search (rules, the_lemmas)

-- `(/ (x) (- (five) 5))` is undefined in every state
by_zero : form_of functions (expr.Quotient x (expr.Difference five (number 5))) [] ≡ None
unfolding sum_of product_of reduce gcd quotient_of quotient_by
by_zero = search (rules, the_lemmas)
