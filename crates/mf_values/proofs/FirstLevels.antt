-- The first layer meets what holds in the state: a condition has level 0 exactly where it holds.
use Rattle.std.proofs.Common.{◌≡◌, ℕ, zero, suc, ◌+◌, max, min, Bool, true, false, ◌&&◌, ◌||◌, not, cond, if◌then◌else◌, List, [], ◌∷◌, ◌++◌, Option, Some, None, Ordering, Less, Equal, Greater, length, map, is_some, refl, sym, ap, ap₂, subst, ◌∙◌, arith, true≢false}
use Rattle.std.specs.List.{AllByRecursion, fold, list_all, list_any, position}
use Rattle.std.proofs.lemmas.Bool.{and_from, and_parts, or_left, or_right}
use Rattle.mf_fraction.specs.Exact.{Number, Proper, fits, is_below, product_of, sum_of}
use Rattle.mf_fraction.proofs.Algebra.{product_of-proper, product_of-zero, sum_of-assoc, sum_of-comm, sum_of-proper, sum_of-zero}
use Rattle.mf_fraction.proofs.OrderLaws.{is_below-self}
use Rattle.mf_model.specs.declared.task.Relation.{Relation}
use Rattle.mf_model.specs.declared.task.Relation.TheVariants as relation
use Rattle.mf_model.specs.declared.truth.Truth.{Truth}
use Rattle.mf_model.specs.declared.truth.Truth.TheVariants.{Yes, No, Neither}
use Rattle.mf_model.specs.Meaning.{plus, times, truth_of}
use Rattle.mf_task.specs.declared.form.Form.{Form}
use Rattle.mf_task.specs.declared.form.Part.{Part}
use Rattle.mf_task.specs.GroundMeaning.{relates, sign, truth_at}
use Rattle.mf_task.specs.LinearForms.{form_value, weight}
use Rattle.mf_task.specs.Layers.{Bound, Finite, Endless, Layer, Range, Want, first_layer, form_is_met, form_range, has_range, high_by, if_it_fits, low_by, plus_bound, point, range_meets, optional_range_meets, times_bound, want_of, with_high, with_low, zero_number}
use Rattle.mf_task.specs.Rows.{Sight}
use Rattle.mf_task.specs.Width.{FormValue, Undefined, Wide, Exact, added_up, all_defined, bounded_value, is_wide_at, is_wide_value, onward, unless_wide}
use Rattle.mf_task.specs.NumberedTasks.{IsProperForm, IsProperSight}
use Rattle.mf_limit.proofs.Fractions.{nothing, nothing-proper, below-less, below-greater, order-less, order-greater, sign-zero}

-- A form that is not wide

-- the value of the parts from a number on, with each sum and product fitting
pub record IsAdded (sight : Sight) (a : Number) (parts : List Part) (w : Number) : Type 0 where
  pub value_is : plus (Some a) (weight sight.value parts) ≡ Some w
  pub high_is : fold (with_high (first_layer sight)) (Finite a) parts ≡ Finite w
  pub low_is : fold (with_low (first_layer sight)) (Finite a) parts ≡ Finite w
  pub proper : Proper w

no-change : (c a x : Number) → Proper c → Proper a → Proper x → sign c ≡ Equal → sum_of a (product_of c x) ≡ a
no-change c a x p q r e = ap (λ z. sum_of a (product_of z x)) (sign-zero c p e) ∙ ap (sum_of a) (product_of-zero x r.positive) ∙ sum_of-comm a nothing ∙ sum_of-zero a q

added-step : (sight : Sight) (a x : Number) (p : Part) → Proper p.coefficient → Proper a → Proper x → sight.value p.term ≡ Some x → fits (product_of p.coefficient x) ≡ true → fits (sum_of a (product_of p.coefficient x)) ≡ true → (o : Ordering) → sign p.coefficient ≡ o → (high_by o (point (sight.value p.term)) p.coefficient (Finite a) ≡ Finite (sum_of a (product_of p.coefficient x))) × (low_by o (point (sight.value p.term)) p.coefficient (Finite a) ≡ Finite (sum_of a (product_of p.coefficient x)))
added-step sight a x p pc pa px is f g Equal e = let same = ap Finite (sym (no-change p.coefficient a x pc pa px e)) in (same, same)
added-step sight a x p pc pa px is f g Greater e = let all = both in (rw is all, rw is all)
  where
    both : plus_bound (Finite a) (times_bound p.coefficient (Finite x)) ≡ Finite (sum_of a (product_of p.coefficient x))
    both = rw (f, g) refl
added-step sight a x p pc pa px is f g Less e = let all = both in (rw is all, rw is all)
  where
    both : plus_bound (Finite a) (times_bound p.coefficient (Finite x)) ≡ Finite (sum_of a (product_of p.coefficient x))
    both = rw (f, g) refl

plus-assoc : (a b : Number) (o : Option Number) → plus (Some a) (plus (Some b) o) ≡ plus (Some (sum_of a b)) o
plus-assoc a b (Some c) = ap (λ n. Some n) (sym (sum_of-assoc a b c))
plus-assoc a b None = refl

pub added-is : (sight : Sight) → IsProperSight sight → (parts : List Part) → AllByRecursion (λ p. Proper p.coefficient) parts → (a w : Number) → Proper a → added_up sight.value a parts ≡ Exact w → IsAdded sight a parts w
added-is sight values [] all a w pa e =
    let same : a ≡ w = cc in
    record { value_is = ap (λ n. Some n) (sum_of-comm a nothing ∙ sum_of-zero a pa ∙ same); high_is = ap Finite same; low_is = ap Finite same; proper = subst Proper same pa }
added-is sight values (p ∷ parts) all a w pa e = by-value (sight.value p.term) refl e (added-is sight values parts all.1)
  where
    Rest : Type 0
    Rest = (b v : Number) → Proper b → added_up sight.value b parts ≡ Exact v → IsAdded sight b parts v

    by-fits : (x : Number) → sight.value p.term ≡ Some x → (s t : Bool) → fits (product_of p.coefficient x) ≡ s → fits (sum_of a (product_of p.coefficient x)) ≡ t → (if s then (if t then added_up sight.value (sum_of a (product_of p.coefficient x)) parts else Wide) else Wide) ≡ Exact w → Rest → IsAdded sight a (p ∷ parts) w
    by-fits x is false t f g h rest = absurd cc
    by-fits x is true false f g h rest = absurd cc
    by-fits x is true true f g h rest =
        let px = values.values p.term x is in
        let pp = product_of-proper p.coefficient x all.0.positive px.positive in
        let ps = sum_of-proper a (product_of p.coefficient x) pa.positive pp.positive in
        let later = rest (sum_of a (product_of p.coefficient x)) w ps h in
        let steps = added-step sight a x p all.0 pa px is f g (sign p.coefficient) refl in
        record {
          value_is = ap (λ o. plus (Some a) (plus (times (Some p.coefficient) o) (weight sight.value parts))) is ∙ plus-assoc a (product_of p.coefficient x) (weight sight.value parts) ∙ later.value_is;
          high_is = ap (λ b. fold (with_high (first_layer sight)) b parts) steps.0 ∙ later.high_is;
          low_is = ap (λ b. fold (with_low (first_layer sight)) b parts) steps.1 ∙ later.low_is;
          proper = later.proper;
        }

    by-value : (o : Option Number) → sight.value p.term ≡ o → onward o (λ v. unless_wide (product_of p.coefficient v) (λ product. unless_wide (sum_of a product) (λ sum. added_up sight.value sum parts))) ≡ Exact w → Rest → IsAdded sight a (p ∷ parts) w
    by-value None is h rest = absurd cc
    by-value (Some x) is h rest = by-fits x is (fits (product_of p.coefficient x)) (fits (sum_of a (product_of p.coefficient x))) refl refl h rest

has-point : (sight : Sight) (term : ℕ) → has_range (first_layer sight) term ≡ is_some (sight.value term)
has-point sight term = by (sight.value term)
  where
    by : (o : Option Number) → is_some (point o) ≡ is_some o
    by (Some a) = refl
    by None = refl

all-points : (sight : Sight) (parts : List Part) → list_all (λ (p : Part). has_range (first_layer sight) p.term) parts ≡ all_defined sight.value parts
all-points sight [] = refl
all-points sight (p ∷ parts) = ap₂ (λ (s t : Bool). s && t) (has-point sight p.term) (all-points sight parts)

-- A number and what is asked of it

table : (r : Relation) (asked : Bool) (w : Number) → Proper w → range_meets (want_of asked r) (record { low = Finite w; high = Finite w }) ≡ (if asked then relates r (sign w) else not (relates r (sign w)))
table r asked w p = by r asked (sign w) refl
  where
    at-less : sign w ≡ Less → (is_below w zero_number ≡ true) × (is_below zero_number w ≡ false)
    at-less e = (below-less w zero_number e, other)
      where
        other : is_below zero_number w ≡ false
        other = rest (is_below zero_number w) refl
          where
            rest : (b : Bool) → is_below zero_number w ≡ b → b ≡ false
            rest false f = refl
            rest true f = absurd (clash (sym (order-greater w zero_number nothing-proper.positive f) ∙ e))
              where
                clash : Greater ≡ Less → ⊥
                clash h = cc

    at-greater : sign w ≡ Greater → (is_below w zero_number ≡ false) × (is_below zero_number w ≡ true)
    at-greater e = (other, below-greater w zero_number e)
      where
        other : is_below w zero_number ≡ false
        other = rest (is_below w zero_number) refl
          where
            rest : (b : Bool) → is_below w zero_number ≡ b → b ≡ false
            rest false f = refl
            rest true f = absurd (clash (sym (order-less w zero_number f) ∙ e))
              where
                clash : Less ≡ Greater → ⊥
                clash h = cc

    at-equal : sign w ≡ Equal → (is_below w zero_number ≡ false) × (is_below zero_number w ≡ false)
    at-equal e = (ap (λ z. is_below z zero_number) (sign-zero w p e) ∙ is_below-self zero_number, ap (is_below zero_number) (sign-zero w p e) ∙ is_below-self zero_number)

    by : (r : Relation) (asked : Bool) (o : Ordering) → sign w ≡ o → range_meets (want_of asked r) (record { low = Finite w; high = Finite w }) ≡ (if asked then relates r o else not (relates r o))
    by relation.Less true Less e = rw (at-less e).0 refl
    by relation.Less true Equal e = rw (at-equal e).0 refl
    by relation.Less true Greater e = rw (at-greater e).0 refl
    by relation.Less false Less e = rw (at-less e).0 refl
    by relation.Less false Equal e = rw (at-equal e).0 refl
    by relation.Less false Greater e = rw (at-greater e).0 refl
    by relation.AtMost true Less e = rw (at-less e).1 refl
    by relation.AtMost true Equal e = rw (at-equal e).1 refl
    by relation.AtMost true Greater e = rw (at-greater e).1 refl
    by relation.AtMost false Less e = rw (at-less e).1 refl
    by relation.AtMost false Equal e = rw (at-equal e).1 refl
    by relation.AtMost false Greater e = rw (at-greater e).1 refl
    by relation.Equal true Less e = rw ((at-less e).1, (at-less e).0) refl
    by relation.Equal true Equal e = rw ((at-equal e).1, (at-equal e).0) refl
    by relation.Equal true Greater e = rw (at-greater e).1 refl
    by relation.Equal false Less e = rw (at-less e).0 refl
    by relation.Equal false Equal e = rw ((at-equal e).0, (at-equal e).1) refl
    by relation.Equal false Greater e = rw ((at-greater e).0, (at-greater e).1) refl
    by relation.AtLeast true Less e = rw (at-less e).0 refl
    by relation.AtLeast true Equal e = rw (at-equal e).0 refl
    by relation.AtLeast true Greater e = rw (at-greater e).0 refl
    by relation.AtLeast false Less e = rw (at-less e).0 refl
    by relation.AtLeast false Equal e = rw (at-equal e).0 refl
    by relation.AtLeast false Greater e = rw (at-greater e).0 refl
    by relation.More true Less e = rw (at-less e).1 refl
    by relation.More true Equal e = rw (at-equal e).1 refl
    by relation.More true Greater e = rw (at-greater e).1 refl
    by relation.More false Less e = rw (at-less e).1 refl
    by relation.More false Equal e = rw (at-equal e).1 refl
    by relation.More false Greater e = rw (at-greater e).1 refl

-- Comparisons

truth-asked : (b asked : Bool) → (if asked then b else not b) ≡ true → truth_of b ≡ truth_of asked
truth-asked true true e = refl
truth-asked true false e = cc
truth-asked false true e = cc
truth-asked false false e = refl

asked-truth : (b asked : Bool) → truth_of b ≡ truth_of asked → (if asked then b else not b) ≡ true
asked-truth true true e = refl
asked-truth true false e = cc
asked-truth false true e = cc
asked-truth false false e = refl

neither-asked : (asked : Bool) → Neither ≡ truth_of asked → ⊥
neither-asked true e = cc
neither-asked false e = cc

-- the form's value is a number that fits, or none
pub data IsNarrowForm (sight : Sight) (form : Form) : Type 0 where
  no-number : form_value sight.value form ≡ None → form_range (first_layer sight) form ≡ None → IsNarrowForm sight form
  a-number : (w : Number) → Proper w → form_value sight.value form ≡ Some w → form_range (first_layer sight) form ≡ Some (record { low = Finite w; high = Finite w }) → IsNarrowForm sight form

no-weight : (sight : Sight) (parts : List Part) → all_defined sight.value parts ≡ false → weight sight.value parts ≡ None
no-weight sight [] e = cc
no-weight sight (p ∷ parts) e = by (sight.value p.term) refl e (no-weight sight parts)
  where
    by : (o : Option Number) → sight.value p.term ≡ o → (is_some o && all_defined sight.value parts) ≡ false → (all_defined sight.value parts ≡ false → weight sight.value parts ≡ None) → plus (times (Some p.coefficient) (sight.value p.term)) (weight sight.value parts) ≡ None
    by None is f rest = rw is refl
    by (Some a) is f rest = rw (is, rest f) refl

never-undefined : (sight : Sight) (parts : List Part) (a : Number) → all_defined sight.value parts ≡ true → added_up sight.value a parts ≡ Undefined → ⊥
never-undefined sight [] a d e = cc
never-undefined sight (p ∷ parts) a d e = by-value (sight.value p.term) refl d e (never-undefined sight parts)
  where
    by-fits : (x : Number) (s t : Bool) → all_defined sight.value parts ≡ true → (if s then (if t then added_up sight.value (sum_of a (product_of p.coefficient x)) parts else Wide) else Wide) ≡ Undefined → ((b : Number) → all_defined sight.value parts ≡ true → added_up sight.value b parts ≡ Undefined → ⊥) → ⊥
    by-fits x true true d f rest = rest (sum_of a (product_of p.coefficient x)) d f
    by-fits x true false d f rest = cc
    by-fits x false t d f rest = cc

    by-value : (o : Option Number) → sight.value p.term ≡ o → (is_some o && all_defined sight.value parts) ≡ true → onward o (λ v. unless_wide (product_of p.coefficient v) (λ product. unless_wide (sum_of a product) (λ sum. added_up sight.value sum parts))) ≡ Undefined → ((b : Number) → all_defined sight.value parts ≡ true → added_up sight.value b parts ≡ Undefined → ⊥) → ⊥
    by-value None is d f rest = cc
    by-value (Some x) is d f rest = by-fits x (fits (product_of p.coefficient x)) (fits (sum_of a (product_of p.coefficient x))) d f rest

narrow-form : (sight : Sight) (form : Form) → IsProperSight sight → IsProperForm form → is_wide_at sight.value form ≡ false → IsNarrowForm sight form
narrow-form sight form values proper narrow = by (all_defined sight.value form.parts) refl
  where
    exact : (v : FormValue) → added_up sight.value form.constant form.parts ≡ v → all_defined sight.value form.parts ≡ true → is_wide_value v ≡ false → IsNarrowForm sight form
    exact Undefined e d n = absurd (never-undefined sight form.parts form.constant d e)
    exact Wide e d n = absurd cc
    exact (Exact w) e d n =
        let added = added-is sight values form.parts proper.coefficients form.constant w proper.constant e in
        a-number w added.proper added.value_is (rw (all-points sight form.parts, d) (ap₂ (λ (low high : Bound). Some (record { low = low; high = high })) added.low_is added.high_is))

    by : (b : Bool) → all_defined sight.value form.parts ≡ b → IsNarrowForm sight form
    by true d = exact (added_up sight.value form.constant form.parts) refl d (ap (λ (b : Bool). is_wide_value (if b then added_up sight.value form.constant form.parts else Undefined)) (sym d) ∙ narrow)
    by false d = no-number (ap (plus (Some form.constant)) (no-weight sight form.parts d)) (rw (all-points sight form.parts, d) refl)

pub met-first : (sight : Sight) (form : Form) (r : Relation) (asked : Bool) → IsProperSight sight → IsProperForm form → is_wide_at sight.value form ≡ false → (form_is_met (first_layer sight) (want_of asked r) form ≡ true → truth_at r (form_value sight.value form) ≡ truth_of asked) × (truth_at r (form_value sight.value form) ≡ truth_of asked → form_is_met (first_layer sight) (want_of asked r) form ≡ true)
met-first sight form r asked values proper narrow = by (narrow-form sight form values proper narrow)
  where
    by : IsNarrowForm sight form → (form_is_met (first_layer sight) (want_of asked r) form ≡ true → truth_at r (form_value sight.value form) ≡ truth_of asked) × (truth_at r (form_value sight.value form) ≡ truth_of asked → form_is_met (first_layer sight) (want_of asked r) form ≡ true)
    by (no-number v e) = (λ met. absurd (true≢false (sym met ∙ ap (optional_range_meets (want_of asked r)) e)), λ truth. absurd (neither-asked asked (ap (truth_at r) (sym v) ∙ truth)))
    by (a-number w p v e) = (
      λ met. ap (truth_at r) v ∙ truth-asked (relates r (sign w)) asked (sym (table r asked w p) ∙ ap (optional_range_meets (want_of asked r)) (sym e) ∙ met),
      λ truth. ap (optional_range_meets (want_of asked r)) e ∙ table r asked w p ∙ asked-truth (relates r (sign w)) asked (ap (truth_at r) (sym v) ∙ truth),
    )
