-- What a checked operation on stored fractions answers, as the value that fits.
use Rattle.std.proofs.Common.{◌≡◌, Bool, true, false, not, if◌then◌else◌, Option, Some, None, Result, Ok, Err, refl, ap, sym, ◌∙◌, ℕ, ◌<◌, ◌^◌, pos, rules, tests}
use Rattle.mf_fraction.specs.declared.faults.Wide.{Wide}
use Rattle.mf_fraction.specs.declared.faults.DivFault.{DivFault}
use Rattle.mf_fraction.specs.declared.faults.DivFault.TheVariants as fault
use Rattle.mf_fraction.specs.Checked.{checked, checked_quotient, wide}
use Rattle.mf_fraction.specs.Exact.{Number, fits, whole, sum_of, difference_of, product_of}
use Rattle.mf_eval.specs.Answers.{answered}
use Rattle.mf_eval.specs.declared.operation.Operation.{Operation}
use Rattle.mf_eval.specs.declared.operation.Operation.TheVariants.{Sum, Difference, Product, Quotient}
use Rattle.mf_eval.specs.Checked.{as_defined, empty_of, kept, operation_of}

defined_where : (b : Bool) (a : Number) → as_defined (if b then Ok a else Err wide) ≡ answered (not b) (Some a)
defined_where true a = refl
defined_where false a = refl

pub as_defined-checked : (a : Number) → as_defined (checked a) ≡ kept (Some a)
unfolding checked
as_defined-checked a = defined_where (fits a) a

-- a quotient, by whether it fits
quotient_where : Bool → Number → Result Number DivFault
quotient_where b a = if b then Ok a else Err fault.Wide

ok_where : (b : Bool) (a v : Number) → quotient_where b a ≡ Ok v → Ok (Some v) ≡ answered (not b) (Some a)
unfolding quotient_where
ok_where true a v e = cc
ok_where false a v e = cc

pub kept-quotient : (q : Option Number) (v : Number) → checked_quotient q ≡ Ok v → Ok (Some v) ≡ kept q
unfolding checked_quotient quotient_where
kept-quotient None v e = cc
kept-quotient (Some a) v e = ok_where (fits a) a v e

zero_where : (b : Bool) (a : Number) → quotient_where b a ≡ Err fault.ZeroDivisor → Ok None ≡ answered (not b) (Some a)
unfolding quotient_where
zero_where true a e = cc
zero_where false a e = cc

pub kept-zero : (q : Option Number) → checked_quotient q ≡ Err fault.ZeroDivisor → Ok None ≡ kept q
unfolding checked_quotient quotient_where
kept-zero None e = refl
kept-zero (Some a) e = zero_where (fits a) a e

wide_where : (b : Bool) (a : Number) → quotient_where b a ≡ Err fault.Wide → Err wide ≡ answered (not b) (Some a)
unfolding quotient_where
wide_where true a e = cc
wide_where false a e = refl

pub kept-wide : (q : Option Number) → checked_quotient q ≡ Err fault.Wide → Err wide ≡ kept q
unfolding checked_quotient quotient_where
kept-wide None e = cc
kept-wide (Some a) e = wide_where (fits a) a e

-- one operation on defined values, as the code does it
pub operated_sum : (op : Operation) (x y : Option Number) (a b : Number) (r : Result Number Wide) (d : Result (Option Number) Wide) → op ≡ Sum → x ≡ Some a → y ≡ Some b → r ≡ checked (sum_of a b) → d ≡ as_defined r → d ≡ kept (operation_of op x y)
operated_sum op x y a b r d o p q e f = rw (o, p, q) (f ∙ ap as_defined e ∙ as_defined-checked (sum_of a b))

pub operated_difference : (op : Operation) (x y : Option Number) (a b : Number) (r : Result Number Wide) (d : Result (Option Number) Wide) → op ≡ Difference → x ≡ Some a → y ≡ Some b → r ≡ checked (difference_of a b) → d ≡ as_defined r → d ≡ kept (operation_of op x y)
operated_difference op x y a b r d o p q e f = rw (o, p, q) (f ∙ ap as_defined e ∙ as_defined-checked (difference_of a b))

pub operated_product : (op : Operation) (x y : Option Number) (a b : Number) (r : Result Number Wide) (d : Result (Option Number) Wide) → op ≡ Product → x ≡ Some a → y ≡ Some b → r ≡ checked (product_of a b) → d ≡ as_defined r → d ≡ kept (operation_of op x y)
operated_product op x y a b r d o p q e f = rw (o, p, q) (f ∙ ap as_defined e ∙ as_defined-checked (product_of a b))

-- whole numbers
unfolds_zero : checked (whole (pos 0)) ≡ Ok (whole (pos 0))
unfolding checked fits
unfolds_zero = refl

unfolds_one : checked (whole (pos 1)) ≡ Ok (whole (pos 1))
unfolding checked fits
unfolds_one = refl

empty_other : (op : Operation) → (op ≡ Product → ⊥) → empty_of op ≡ whole (pos 0)
empty_other Sum other = refl
empty_other Difference other = refl
empty_other Product other = absurd (other refl)
empty_other Quotient other = refl

pub empty_product : (op : Operation) (r : Result Number Wide) (d : Result (Option Number) Wide) → op ≡ Product → r ≡ checked (whole (pos 1)) → d ≡ as_defined r → d ≡ Ok (Some (empty_of op))
empty_product op r d o e f = rw o (f ∙ ap as_defined (e ∙ unfolds_one))

pub empty_sum : (op : Operation) (r : Result Number Wide) (d : Result (Option Number) Wide) → (op ≡ Product → ⊥) → r ≡ checked (whole (pos 0)) → d ≡ as_defined r → d ≡ Ok (Some (empty_of op))
empty_sum op r d other e f = f ∙ ap as_defined (e ∙ unfolds_zero) ∙ ap (λ (a : Number). Ok (Some a)) (sym (empty_other op other))

not_where : (b : Bool) (a : Number) → b ≡ false → Err wide ≡ answered (not b) (Some a)
not_where true a e = cc
not_where false a e = refl

past_limit : (n : ℕ) → 2 ^ 62 < n → fits (whole (pos n)) ≡ false
unfolding fits
past_limit n h = search (rules, tests)

pub kept-past_limit : (n : ℕ) → 2 ^ 62 < n → Err wide ≡ kept (Some (whole (pos n)))
kept-past_limit n h = not_where (fits (whole (pos n))) (whole (pos n)) (past_limit n h)
