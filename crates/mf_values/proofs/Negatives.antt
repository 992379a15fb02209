-- The upper end of a negated form is the lower end of the form, turned about.
use Rattle.std.proofs.Common.{◌≡◌, ℕ, ℤ, pos, negsuc, Bool, true, false, ◌&&◌, not, if◌then◌else◌, List, [], ◌∷◌, Option, Some, None, Ordering, Less, Equal, Greater, map, is_some, refl, sym, ap, ap₂, subst, ◌∙◌, arith, true≢false}
use Rattle.std.specs.List.{AllByRecursion, fold, list_all}
use Rattle.mf_fraction.specs.Exact.{Number, Proper, whole, fits, is_below, negative_of, product_of, sum_of, order_of}
use Rattle.mf_fraction.proofs.Algebra.{difference_of-negative, difference_of-product, negative_of-proper, product_of-assoc, product_of-proper, product_of-sum, sum_of-proper, sum_of-zero}
use Rattle.mf_fraction.proofs.Monotone.{order_of-negative}
use Rattle.mf_fraction.proofs.Reduced.{whole-proper}
use Rattle.mf_task.specs.declared.form.Form.{Form}
use Rattle.mf_task.specs.declared.form.Part.{Part}
use Rattle.mf_task.specs.GroundMeaning.{sign}
use Rattle.mf_task.specs.LinearForms.{minus_one, negative_form, scaled_part}
use Rattle.mf_task.specs.Layers.{Bound, Finite, Endless, Layer, Range, Above, AtLeast, AtMost, Below, form_is_met, form_range, has_range, high_by, high_of, if_it_fits, is_above_zero, is_below_zero, is_not_above_zero, is_not_below_zero, low_by, low_of, negative_bound, plus_bound, times_bound, with_high, with_low, zero_number}
use Rattle.mf_task.specs.NumberedTasks.{IsProperForm}
use Rattle.mf_limit.proofs.Fractions.{below-greater, below-less, nothing-proper, order-greater, order-less}
use Rattle.mf_values.proofs.Ends.{IsKept, below-negative, below-turned, negative-zero}
use Rattle.mf_values.proofs.Kept.{IsKeptLayer, high-kept, low-kept, times-kept, with-low-kept}
use Rattle.mf_values.proofs.Layering.{fits-negative}

pub minus-is : (a : Number) → Proper a → product_of minus_one a ≡ negative_of a
minus-is a p =
    sym (sum_of-zero (product_of minus_one a) (product_of-proper minus_one a (omega arith) p.positive))
    ∙ sym (difference_of-product zero_number a) ∙ difference_of-negative zero_number a
    ∙ sum_of-zero (negative_of a) (negative_of-proper a p)

negative-sum : (a b : Number) → Proper a → Proper b → negative_of (sum_of a b) ≡ sum_of (negative_of a) (negative_of b)
negative-sum a b p q =
    sym (minus-is (sum_of a b) (sum_of-proper a b p.positive q.positive)) ∙ product_of-sum minus_one a b (omega arith) ∙ ap₂ sum_of (minus-is a p) (minus-is b q)

negative-product : (c a : Number) → Proper c → Proper a → product_of (negative_of c) a ≡ negative_of (product_of c a)
negative-product c a p q =
    ap (λ x. product_of x a) (sym (minus-is c p)) ∙ product_of-assoc minus_one c a ∙ minus-is (product_of c a) (product_of-proper c a p.positive q.positive)

negative-fit : (a : Number) → negative_bound (if_it_fits a) ≡ if_it_fits (negative_of a)
negative-fit a = by (fits a) refl
  where
    by : (b : Bool) → fits a ≡ b → negative_bound (if b then Finite a else Endless) ≡ if_it_fits (negative_of a)
    by true e = ap (λ (s : Bool). if s then Finite (negative_of a) else Endless) (sym e ∙ sym (fits-negative a))
    by false e = ap (λ (s : Bool). if s then Finite (negative_of a) else Endless) (sym e ∙ sym (fits-negative a))

negative-plus : (a b : Bound) → IsKept a → IsKept b → plus_bound (negative_bound a) (negative_bound b) ≡ negative_bound (plus_bound a b)
negative-plus (Finite a) (Finite b) p q = ap if_it_fits (sym (negative-sum a b p.lowest q.lowest)) ∙ sym (negative-fit (sum_of a b))
negative-plus (Finite a) Endless p q = refl
negative-plus Endless b p q = refl

negative-times : (c : Number) (b : Bound) → Proper c → IsKept b → times_bound (negative_of c) b ≡ negative_bound (times_bound c b)
negative-times c (Finite a) p q = ap if_it_fits (negative-product c a p q.lowest) ∙ sym (negative-fit (product_of c a))
negative-times c Endless p q = refl

abbrev turned : Ordering → Ordering
turned Less = Greater
turned Equal = Equal
turned Greater = Less

sign-negative : (c : Number) → Proper c → sign (negative_of c) ≡ turned (sign c)
sign-negative c p = ap (order_of (negative_of c)) (sym negative-zero) ∙ order_of-negative c zero_number ∙ by (sign c) refl
  where
    by : (o : Ordering) → sign c ≡ o → order_of zero_number c ≡ turned o
    by Less e = order-greater zero_number c p.positive (below-less c zero_number e)
    by Greater e = order-less zero_number c (below-greater c zero_number e)
    by Equal e = order-back e
      where
        order-back : sign c ≡ Equal → order_of zero_number c ≡ Equal
        order-back f = rest (order_of zero_number c) refl
          where
            rest : (o : Ordering) → order_of zero_number c ≡ o → order_of zero_number c ≡ Equal
            rest Equal g = g
            rest Less g = let h : sign c ≡ Greater = order-greater c zero_number nothing-proper.positive (below-less zero_number c g) in absurd (clash (sym f ∙ h))
              where
                clash : Equal ≡ Greater → ⊥
                clash k = cc
            rest Greater g = let h : sign c ≡ Less = order-less c zero_number (below-greater zero_number c g) in absurd (clash (sym f ∙ h))
              where
                clash : Equal ≡ Less → ⊥
                clash k = cc

high-step : (layer : Layer) (a : Bound) (p : Part) → IsKeptLayer layer → IsKept a → Proper p.coefficient → with_high layer (negative_bound a) (scaled_part minus_one p) ≡ negative_bound (with_low layer a p)
high-step layer a p k q c = ap (λ x. high_by (sign x) (layer.range p.term) x (negative_bound a)) (minus-is p.coefficient c) ∙ ap (λ (o : Ordering). high_by o (layer.range p.term) (negative_of p.coefficient) (negative_bound a)) (sign-negative p.coefficient c) ∙ by (sign p.coefficient)
  where
    by : (o : Ordering) → high_by (turned o) (layer.range p.term) (negative_of p.coefficient) (negative_bound a) ≡ negative_bound (low_by o (layer.range p.term) p.coefficient a)
    by Greater =
        ap (plus_bound (negative_bound a)) (negative-times p.coefficient (low_of (layer.range p.term)) c (low-kept layer p.term k))
        ∙ negative-plus a (times_bound p.coefficient (low_of (layer.range p.term))) q (times-kept p.coefficient (low_of (layer.range p.term)) c (low-kept layer p.term k))
    by Less =
        ap (plus_bound (negative_bound a)) (negative-times p.coefficient (high_of (layer.range p.term)) c (high-kept layer p.term k))
        ∙ negative-plus a (times_bound p.coefficient (high_of (layer.range p.term))) q (times-kept p.coefficient (high_of (layer.range p.term)) c (high-kept layer p.term k))
    by Equal = refl

high-fold : (layer : Layer) (ps : List Part) (a : Bound) → IsKeptLayer layer → IsKept a → AllByRecursion (λ p. Proper p.coefficient) ps → fold (with_high layer) (negative_bound a) (map (scaled_part minus_one) ps) ≡ negative_bound (fold (with_low layer) a ps)
high-fold layer [] a k q all = refl
high-fold layer (p ∷ ps) a k q all =
    ap (λ b. fold (with_high layer) b (map (scaled_part minus_one) ps)) (high-step layer a p k q all.0)
    ∙ high-fold layer ps (with_low layer a p) k (with-low-kept layer k a p all.0 q) all.1

all-ranges : (layer : Layer) (ps : List Part) → list_all (λ p. has_range layer p.term) (map (scaled_part minus_one) ps) ≡ list_all (λ p. has_range layer p.term) ps
all-ranges layer [] = refl
all-ranges layer (p ∷ ps) = ap (λ (b : Bool). has_range layer p.term && b) (all-ranges layer ps)

high-negative : (layer : Layer) (form : Form) → IsKeptLayer layer → IsProperForm form → fits form.constant ≡ true → fold (with_high layer) (Finite (negative_form form).constant) (negative_form form).parts ≡ negative_bound (fold (with_low layer) (Finite form.constant) form.parts)
high-negative layer form k proper f =
    ap (λ x. fold (with_high layer) (Finite x) (map (scaled_part minus_one) form.parts)) (minus-is form.constant proper.constant)
    ∙ high-fold layer form.parts (Finite form.constant) k (record { lowest = proper.constant; fitting = f }) proper.coefficients

above-negative : (b : Bound) → is_above_zero (negative_bound b) ≡ is_below_zero b
above-negative (Finite a) = ap (λ z. is_below z (negative_of a)) (sym negative-zero) ∙ below-negative zero_number a
above-negative Endless = refl

least-negative : (b : Bound) → is_not_below_zero (negative_bound b) ≡ is_not_above_zero b
least-negative (Finite a) = ap not (below-turned a)
least-negative Endless = refl

-- a form is below 0 where its negation is above, and at most 0 where that is at least 0
pub met-negative-above : (layer : Layer) (form : Form) → IsKeptLayer layer → IsProperForm form → fits form.constant ≡ true → form_is_met layer Above (negative_form form) ≡ form_is_met layer Below form
met-negative-above layer form k proper f = by (list_all (λ p. has_range layer p.term) form.parts) refl
  where
    by : (b : Bool) → list_all (λ p. has_range layer p.term) form.parts ≡ b → form_is_met layer Above (negative_form form) ≡ form_is_met layer Below form
    by true e = rw (all-ranges layer form.parts, e) (ap is_above_zero (high-negative layer form k proper f) ∙ above-negative (fold (with_low layer) (Finite form.constant) form.parts))
    by false e = rw (all-ranges layer form.parts, e) refl

pub met-negative-least : (layer : Layer) (form : Form) → IsKeptLayer layer → IsProperForm form → fits form.constant ≡ true → form_is_met layer AtLeast (negative_form form) ≡ form_is_met layer AtMost form
met-negative-least layer form k proper f = by (list_all (λ p. has_range layer p.term) form.parts) refl
  where
    by : (b : Bool) → list_all (λ p. has_range layer p.term) form.parts ≡ b → form_is_met layer AtLeast (negative_form form) ≡ form_is_met layer AtMost form
    by true e = rw (all-ranges layer form.parts, e) (ap is_not_below_zero (high-negative layer form k proper f) ∙ least-negative (fold (with_low layer) (Finite form.constant) form.parts))
    by false e = rw (all-ranges layer form.parts, e) refl

negative-coefficients : (ps : List Part) → AllByRecursion (λ p. Proper p.coefficient) ps → AllByRecursion (λ p. Proper p.coefficient) (map (scaled_part minus_one) ps)
negative-coefficients [] all = tt
negative-coefficients (p ∷ ps) all = (product_of-proper minus_one p.coefficient (omega arith) all.0.positive, negative-coefficients ps all.1)

pub negative-proper-form : (form : Form) → IsProperForm form → IsProperForm (negative_form form)
negative-proper-form form proper = record { constant = product_of-proper minus_one form.constant (omega arith) proper.constant.positive; coefficients = negative-coefficients form.parts proper.coefficients }
