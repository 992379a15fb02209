-- The known value of a form, part by part, and the chances of a constant form.
use Rattle.std.proofs.Common.{◌≡◌, ◌∙◌, refl, sym, ap, Ordering, Less, Equal, Greater, pos, Bool, true, false, if◌then◌else◌, List, ◌∷◌, Option, Some, None}
use Rattle.std.specs.List.{list_all, list_any}
use Rattle.mf_fraction.specs.Exact.{Number, fits, product_of, sum_of, whole}
use Rattle.mf_model.specs.declared.task.Relation.TheVariants as relation
use Rattle.mf_task.specs.declared.form.Form.{Form}
use Rattle.mf_task.specs.declared.form.Part.{Part}
use Rattle.mf_task.specs.GroundMeaning.{relates, sign}
use Rattle.mf_task.specs.LinearForms.{constant_form}
use Rattle.mf_task.specs.LimitClosure.{Family, if_fits, is_zero, known_value, lifts, lowers, sign_of_known, then_some}
use Rattle.mf_task.specs.Rows.{Sight}
use Rattle.mf_limit.specs.declared.chance.FormChance.{FormChance}
use Rattle.mf_limit.specs.Chances.{chance_of, next_known}
use Rattle.mf_limit.proofs.Fractions.{sign-is}

after-fits : (b c : Bool) (y : Number) (rest : Number → Option Number) → then_some (if b then (if c then Some y else None) else None) rest ≡ (if b then (if c then rest y else None) else None)
after-fits true true y rest = refl
after-fits true false y rest = refl
after-fits false c y rest = refl

after-value : (v : Option Number) (one other : Number → Number) (rest : Number → Option Number)
    → then_some (then_some v (λ x. if_fits (one x) (λ y. if_fits (other y) Some))) rest ≡ then_some v (λ x. if_fits (one x) (λ y. if_fits (other y) rest))
after-value None one other rest = refl
after-value (Some v) one other rest = after-fits (fits (one v)) (fits (other (one v))) (other (one v)) rest

after-zero : (zero : Bool) (a : Number) (v : Option Number) (one other : Number → Number) (rest : Number → Option Number)
    → then_some (if zero then Some a else then_some v (λ x. if_fits (one x) (λ y. if_fits (other y) Some))) rest ≡ (if zero then rest a else then_some v (λ x. if_fits (one x) (λ y. if_fits (other y) rest)))
after-zero true a v one other rest = refl
after-zero false a v one other rest = after-value v one other rest

module _ (sight : Sight) (a : Number) (p : Part) where
  known-step : (ps : List Part) → then_some (next_known sight a p) (λ b. known_value sight b ps) ≡ known_value sight a (p ∷ ps)
  unfolding next_known
  known-step ps = after-zero (is_zero p.coefficient) a (sight.value p.term) (product_of p.coefficient) (sum_of a) (λ b. known_value sight b ps)

  pub known-more : (b : Number) (ps : List Part) → Some b ≡ next_known sight a p → known_value sight a (p ∷ ps) ≡ known_value sight b ps
  known-more b ps e = sym (known-step ps) ∙ ap (λ x. then_some x (λ c. known_value sight c ps)) (sym e)

  pub known-none : (ps : List Part) → None ≡ next_known sight a p → known_value sight a (p ∷ ps) ≡ None
  known-none ps e = sym (known-step ps) ∙ ap (λ x. then_some x (λ c. known_value sight c ps)) (sym e)

  by-zero : (b : Bool) → is_zero p.coefficient ≡ b → next_known sight a p ≡ (if b then Some a else then_some (sight.value p.term) (λ v. if_fits (product_of p.coefficient v) (λ product. if_fits (sum_of a product) Some)))
  unfolding next_known
  by-zero b e = ap (λ z. if z then Some a else then_some (sight.value p.term) (λ v. if_fits (product_of p.coefficient v) (λ product. if_fits (sum_of a product) Some))) e

  pub next-zero : is_zero p.coefficient ≡ true → Some a ≡ next_known sight a p
  next-zero e = sym (by-zero true e)

  pub next-undefined : is_zero p.coefficient ≡ false → None ≡ sight.value p.term → None ≡ next_known sight a p
  next-undefined e u = sym (by-zero false e ∙ ap (λ v. then_some v (λ v. if_fits (product_of p.coefficient v) (λ product. if_fits (sum_of a product) Some))) (sym u))

  by-value : (v : Number) → is_zero p.coefficient ≡ false → Some v ≡ sight.value p.term → next_known sight a p ≡ if_fits (product_of p.coefficient v) (λ product. if_fits (sum_of a product) Some)
  by-value v e u = by-zero false e ∙ ap (λ v. then_some v (λ v. if_fits (product_of p.coefficient v) (λ product. if_fits (sum_of a product) Some))) (sym u)

  pub next-wide : (v : Number) → is_zero p.coefficient ≡ false → Some v ≡ sight.value p.term → None ≡ if_fits (product_of p.coefficient v) Some → None ≡ next_known sight a p
  next-wide v e u w = sym (by-value v e u ∙ by (fits (product_of p.coefficient v)) w)
    where
      by : (b : Bool) → None ≡ (if b then Some (product_of p.coefficient v) else None) → (if b then if_fits (sum_of a (product_of p.coefficient v)) Some else None) ≡ None
      by true w = cc
      by false w = refl

  pub next-sum : (v product : Number) → is_zero p.coefficient ≡ false → Some v ≡ sight.value p.term → Some product ≡ if_fits (product_of p.coefficient v) Some → if_fits (sum_of a product) Some ≡ next_known sight a p
  next-sum v product e u w = sym (by-value v e u ∙ by (fits (product_of p.coefficient v)) w)
    where
      by : (b : Bool) → Some product ≡ (if b then Some (product_of p.coefficient v) else None) → (if b then if_fits (sum_of a (product_of p.coefficient v)) Some else None) ≡ if_fits (sum_of a product) Some
      by true w = ap (λ x. if_fits (sum_of a x) Some) (inner (sym w))
        where
          inner : {x y : Number} → Some x ≡ Some y → x ≡ y
          inner e = cc
      by false w = cc

pub not-zero : (o : Ordering) → (o ≡ Equal → ⊥) → relates relation.Equal o ≡ false
not-zero Less apart = refl
not-zero Equal apart = absurd (apart refl)
not-zero Greater apart = refl

zero-sign : sign (whole (pos 0)) ≡ Equal
zero-sign = sign-is (whole (pos 0))

-- the chances of the constant 0, for which a number beyond the task's forms stands
abbrev pub zero_chance : FormChance
zero_chance = record { may_be_defined = true; sign = Some Equal; may_go_up = false; may_go_down = false }

pub chance-beyond : (sight : Sight) (f : Family) (a : Form) → a ≡ constant_form (whole (pos 0)) → zero_chance ≡ chance_of sight f a
chance-beyond sight f a e =
    ap (λ o. record { may_be_defined = true; sign = Some o; may_go_up = false; may_go_down = false }) (sym zero-sign) ∙ ap (chance_of sight f) (sym e)

-- the chances of a form, one by one
pub chances-are : (sight : Sight) (f : Family) (a : Form) (parts : List Part) → parts ≡ a.parts → (d : Bool) → d ≡ list_all (λ p. f.defined p.term) parts → (known : Option Number) → known ≡ known_value sight a.constant parts
    → (s : Option Ordering) → s ≡ sign_of_known known → (u : Bool) → u ≡ list_any (λ p. lifts f (sign p.coefficient) p.term) parts → (w : Bool) → w ≡ list_any (λ p. lowers f (sign p.coefficient) p.term) parts
    → record { may_be_defined = d; sign = s; may_go_up = u; may_go_down = w } ≡ chance_of sight f a
chances-are sight f a parts e d defined known value s sign_is u up w down = λ i. record {
  may_be_defined = (defined ∙ ap (list_all (λ p. f.defined p.term)) e) i;
  sign = (sign_is ∙ ap sign_of_known (value ∙ ap (known_value sight a.constant) e)) i;
  may_go_up = (up ∙ ap (list_any (λ p. lifts f (sign p.coefficient) p.term)) e) i;
  may_go_down = (down ∙ ap (list_any (λ p. lowers f (sign p.coefficient) p.term)) e) i;
}
