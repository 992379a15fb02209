-- What the form of an expression of some degree tells of its value, and that operations keep it so.
use Rattle.std.proofs.Common.{◌≡◌, ℕ, pos, true, List, [], ◌∷◌, map, Option, Some, None, refl, sym, subst, ap, ap₂, ◌∙◌, ◌⊎◌, inl, inr}
use Rattle.std.specs.Prelude.{IfSome}
use Rattle.std.proofs.lemmas.Bool.{false≢true}
use Rattle.mf_fraction.specs.Exact.{Number, Proper, whole, quotient_of}
use Rattle.mf_fraction.proofs.Algebra.{quotient_of-proper}
use Rattle.mf_fraction.proofs.Reduced.{whole-proper}
use Rattle.mf_model.specs.Linearity.{Degree, Constant, Linear, Beyond, sum_degree, product_degree, quotient_degree, is_constant_degree, is_within}
use Rattle.mf_model.specs.Meaning.{minus, negated, over, plus, times}
use Rattle.mf_task.specs.declared.form.Form.{Form}
use Rattle.mf_task.specs.declared.form.Part.{Part}
use Rattle.mf_task.specs.LinearForms.{constant_form, difference_forms, form_value, minus_one, negative_forms, optional_form_value, product_by, product_forms, quotient_form, quotient_forms, quotient_over, scaled_by, scaled_part, started_form, sum_forms, term_form, weight, with_parts}
use Rattle.mf_bridge.proofs.Numbers.{IsLowest, one_times, plus_zero, quotient_none, quotient_product, times_comm, zero_plus}
use Rattle.mf_bridge.proofs.Weights.{IsLowestForm, form_value-constant, form_value-difference, form_value-negative, form_value-scaled, form_value-sum, form_value_lowest, negative_form_lowest, scaled_form_lowest, sum_form_lowest}

-- degrees

pub sum_degree-constant : (d : Degree) → sum_degree d Constant ≡ d
sum_degree-constant Constant = refl
sum_degree-constant Linear = refl
sum_degree-constant Beyond = refl

pub product_degree-constant : (d : Degree) → product_degree d Constant ≡ d
product_degree-constant Constant = refl
product_degree-constant Linear = refl
product_degree-constant Beyond = refl

pub sum_degree-assoc : (d e f : Degree) → sum_degree (sum_degree d e) f ≡ sum_degree d (sum_degree e f)
sum_degree-assoc Constant e f = refl
sum_degree-assoc Linear Constant f = refl
sum_degree-assoc Linear Linear Constant = refl
sum_degree-assoc Linear Linear Linear = refl
sum_degree-assoc Linear Linear Beyond = refl
sum_degree-assoc Linear Beyond f = refl
sum_degree-assoc Beyond e f = refl

pub product_degree-assoc : (d e f : Degree) → product_degree (product_degree d e) f ≡ product_degree d (product_degree e f)
product_degree-assoc Constant e f = refl
product_degree-assoc Linear Constant f = refl
product_degree-assoc Linear Linear Constant = refl
product_degree-assoc Linear Linear Linear = refl
product_degree-assoc Linear Linear Beyond = refl
product_degree-assoc Linear Beyond f = refl
product_degree-assoc Beyond e f = refl

pub within_sum : (d e : Degree) → is_within (sum_degree d e) ≡ true → (is_within d ≡ true) × (is_within e ≡ true)
within_sum Constant e w = (refl, w)
within_sum Linear Constant w = (refl, refl)
within_sum Linear Linear w = (refl, refl)
within_sum Linear Beyond w = absurd (false≢true w)
within_sum Beyond e w = absurd (false≢true w)

pub within_product : (d e : Degree) → is_within (product_degree d e) ≡ true → (is_within d ≡ true) × (is_within e ≡ true)
within_product Constant e w = (refl, w)
within_product Linear Constant w = (refl, refl)
within_product Linear Linear w = absurd (false≢true w)
within_product Linear Beyond w = absurd (false≢true w)
within_product Beyond e w = absurd (false≢true w)

pub within_quotient : (d e : Degree) → is_within (quotient_degree d e) ≡ true → (is_within d ≡ true) × (is_constant_degree e ≡ true)
within_quotient d Constant w = (w, refl)
within_quotient d Linear w = absurd (false≢true w)
within_quotient d Beyond w = absurd (false≢true w)

pub constant_within : (d : Degree) → is_constant_degree d ≡ true → is_within d ≡ true
constant_within Constant c = refl
constant_within Linear c = absurd (false≢true c)
constant_within Beyond c = absurd (false≢true c)

constant_sum : (d e : Degree) → is_constant_degree (sum_degree d e) ≡ true → (is_constant_degree d ≡ true) × (is_constant_degree e ≡ true)
constant_sum Constant e c = (refl, c)
constant_sum Linear Constant c = absurd (false≢true c)
constant_sum Linear Linear c = absurd (false≢true c)
constant_sum Linear Beyond c = absurd (false≢true c)
constant_sum Beyond e c = absurd (false≢true c)

constant_product : (d e : Degree) → is_constant_degree (product_degree d e) ≡ true → (is_constant_degree d ≡ true) × (is_constant_degree e ≡ true)
constant_product Constant e c = (refl, c)
constant_product Linear Constant c = absurd (false≢true c)
constant_product Linear Linear c = absurd (false≢true c)
constant_product Linear Beyond c = absurd (false≢true c)
constant_product Beyond e c = absurd (false≢true c)

constant_quotient : (d e : Degree) → is_constant_degree e ≡ true → is_constant_degree (quotient_degree d e) ≡ true → is_constant_degree d ≡ true
constant_quotient d Constant e c = c
constant_quotient d Linear e c = absurd (false≢true e)
constant_quotient d Beyond e c = absurd (false≢true e)

one_is_constant : (d e : Degree) → is_within (product_degree d e) ≡ true → (is_constant_degree d ≡ true) ⊎ (is_constant_degree e ≡ true)
one_is_constant Constant e w = inl refl
one_is_constant Linear Constant w = inr refl
one_is_constant Linear Linear w = absurd (false≢true w)
one_is_constant Linear Beyond w = absurd (false≢true w)
one_is_constant Beyond e w = absurd (false≢true w)

plus_none : (x : Option Number) → plus x None ≡ None
plus_none (Some a) = refl
plus_none None = refl

minus_none : (x : Option Number) → minus x None ≡ None
minus_none (Some a) = refl
minus_none None = refl

times_none : (x : Option Number) → times x None ≡ None
times_none (Some a) = refl
times_none None = refl

over_none : (x : Option Number) → over x None ≡ None
over_none (Some a) = refl
over_none None = refl

-- an undefined dividend, and a divisor with an inverse or without one
over_inverse : (x : Option Number) (c q : Number) → quotient_of (whole (pos 1)) c ≡ Some q → over x (Some c) ≡ times (Some q) x
over_inverse (Some a) c q e = quotient_product a c q e
over_inverse None c q e = refl

over_nothing : (x : Option Number) (c : Number) → quotient_of (whole (pos 1)) c ≡ None → over x (Some c) ≡ None
over_nothing (Some a) c e = quotient_none a c e
over_nothing None c e = refl

abbrev pub HasNoParts : Option Form → Type 0
HasNoParts form = IfSome form (λ a. a.parts ≡ [])

no_empty : (p : Part) (ps : List Part) → p ∷ ps ≡ [] → ⊥
no_empty p ps e = cc

module _ (value : ℕ → Option Number) (lowest : (term : ℕ) → IsLowest (value term)) where
  -- the value is that of the form, whose numbers are in lowest terms, and which has no parts where it is of constant degree
  pub record Tells (d : Degree) (form : Option Form) (x : Option Number) : Type 0 where
    pub is : x ≡ optional_form_value value form
    pub low : IfSome form IsLowestForm
    pub constant : is_constant_degree d ≡ true → HasNoParts form

  pub tells_number : (a : Number) → Proper a → Tells Constant (Some (constant_form a)) (Some a)
  tells_number a p = record {
    is = sym (form_value-constant value lowest a p);
    low = record { constant = p; parts = tt };
    constant = λ c. refl;
  }

  pub tells_start : (x start : Option Number) → x ≡ start → IsLowest x → Tells Constant (started_form start) x
  tells_start x (Some a) e p =
      let q : Proper a = subst IsLowest e p in
      record { is = e ∙ sym (form_value-constant value lowest a q); low = record { constant = q; parts = tt }; constant = λ c. refl }
  tells_start x None e p = record { is = e; low = tt; constant = λ c. tt }

  pub tells_term : (x : Option Number) (term : ℕ) → x ≡ value term → Tells Linear (Some (term_form term)) x
  tells_term x term e = record {
    is = e ∙ sym (ap (plus (Some (whole (pos 0)))) (ap (λ y. plus y (Some (whole (pos 0)))) (one_times (value term) (lowest term)) ∙ plus_zero (value term) (lowest term)) ∙ zero_plus (value term) (lowest term));
    low = record { constant = whole-proper (pos 0); parts = (whole-proper (pos 1), tt) };
    constant = λ c. absurd (false≢true c);
  }

  -- sums, differences, negation

  sum-is : (f g : Option Form) → IfSome f IsLowestForm → IfSome g IsLowestForm → plus (optional_form_value value f) (optional_form_value value g) ≡ optional_form_value value (sum_forms f g)
  sum-is (Some a) (Some b) p q = sym (form_value-sum value lowest a b p q)
  sum-is (Some a) None p q = plus_none (form_value value a)
  sum-is None g p q = refl

  sum-low : (f g : Option Form) → IfSome f IsLowestForm → IfSome g IsLowestForm → IfSome (sum_forms f g) IsLowestForm
  sum-low (Some a) (Some b) p q = sum_form_lowest a b p q
  sum-low (Some a) None p q = tt
  sum-low None g p q = tt

  sum-constant : (f g : Option Form) → HasNoParts f → HasNoParts g → HasNoParts (sum_forms f g)
  sum-constant (Some a) (Some b) p q = ap₂ with_parts p q
  sum-constant (Some a) None p q = tt
  sum-constant None g p q = tt

  pub tells_sum : (d e : Degree) (f g : Option Form) (x y : Option Number) → Tells d f x → Tells e g y → Tells (sum_degree d e) (sum_forms f g) (plus x y)
  tells_sum d e f g x y p q = record {
    is = ap₂ plus p.is q.is ∙ sum-is f g p.low q.low;
    low = sum-low f g p.low q.low;
    constant = λ c. sum-constant f g (p.constant (constant_sum d e c).0) (q.constant (constant_sum d e c).1);
  }

  difference-is : (f g : Option Form) → IfSome f IsLowestForm → IfSome g IsLowestForm → minus (optional_form_value value f) (optional_form_value value g) ≡ optional_form_value value (difference_forms f g)
  difference-is (Some a) (Some b) p q = sym (form_value-difference value lowest a b p q)
  difference-is (Some a) None p q = minus_none (form_value value a)
  difference-is None g p q = refl

  difference-low : (f g : Option Form) → IfSome f IsLowestForm → IfSome g IsLowestForm → IfSome (difference_forms f g) IsLowestForm
  difference-low (Some a) (Some b) p q = sum_form_lowest a _ p (negative_form_lowest b q)
  difference-low (Some a) None p q = tt
  difference-low None g p q = tt

  difference-constant : (f g : Option Form) → HasNoParts f → HasNoParts g → HasNoParts (difference_forms f g)
  difference-constant (Some a) (Some b) p q = ap₂ with_parts p (ap (map (scaled_part minus_one)) q)
  difference-constant (Some a) None p q = tt
  difference-constant None g p q = tt

  pub tells_difference : (d e : Degree) (f g : Option Form) (x y : Option Number) → Tells d f x → Tells e g y → Tells (sum_degree d e) (difference_forms f g) (minus x y)
  tells_difference d e f g x y p q = record {
    is = ap₂ minus p.is q.is ∙ difference-is f g p.low q.low;
    low = difference-low f g p.low q.low;
    constant = λ c. difference-constant f g (p.constant (constant_sum d e c).0) (q.constant (constant_sum d e c).1);
  }

  negative-is : (f : Option Form) → IfSome f IsLowestForm → negated (optional_form_value value f) ≡ optional_form_value value (negative_forms f)
  negative-is (Some a) p = sym (form_value-negative value lowest a p)
  negative-is None p = refl

  negative-low : (f : Option Form) → IfSome f IsLowestForm → IfSome (negative_forms f) IsLowestForm
  negative-low (Some a) p = negative_form_lowest a p
  negative-low None p = tt

  negative-constant : (f : Option Form) → HasNoParts f → HasNoParts (negative_forms f)
  negative-constant (Some a) p = ap (map (scaled_part minus_one)) p
  negative-constant None p = tt

  pub tells_negative : (d : Degree) (f : Option Form) (x : Option Number) → Tells d f x → Tells d (negative_forms f) (negated x)
  tells_negative d f x p = record {
    is = ap negated p.is ∙ negative-is f p.low;
    low = negative-low f p.low;
    constant = λ c. negative-constant f (p.constant c);
  }

  -- products and quotients

  -- the value of a form without parts
  pub constant_value : (a : Form) → IsLowestForm a → a.parts ≡ [] → form_value value a ≡ Some a.constant
  constant_value a p e = ap (λ ps. plus (Some a.constant) (weight value ps)) e ∙ plus_zero (Some a.constant) p.constant

  product-tells : (d e : Degree) (a b : Form) → Tells d (Some a) (form_value value a) → Tells e (Some b) (form_value value b) → (a.parts ≡ []) ⊎ (b.parts ≡ []) →
      (ps qs : List Part) → a.parts ≡ ps → b.parts ≡ qs → Tells (product_degree d e) (product_by a b ps qs) (times (form_value value a) (form_value value b))
  product-tells d e a b p q one ps [] ep eq = record {
    is = ap (times (form_value value a)) (constant_value b q.low eq) ∙ times_comm (form_value value a) (Some b.constant) ∙ sym (form_value-scaled value lowest b.constant a q.low.constant);
    low = scaled_form_lowest b.constant a q.low.constant p.low;
    constant = λ c. ap (map (scaled_part b.constant)) (p.constant (constant_product d e c).0);
  }
  product-tells d e a b p q one [] (r ∷ qs) ep eq = record {
    is = ap (λ x. times x (form_value value b)) (constant_value a p.low ep) ∙ sym (form_value-scaled value lowest a.constant b p.low.constant);
    low = scaled_form_lowest a.constant b p.low.constant q.low;
    constant = λ c. ap (map (scaled_part a.constant)) (q.constant (constant_product d e c).1);
  }
  product-tells d e a b p q (inl empty) (s ∷ ps) (r ∷ qs) ep eq = absurd (no_empty s ps (sym ep ∙ empty))
  product-tells d e a b p q (inr empty) (s ∷ ps) (r ∷ qs) ep eq = absurd (no_empty r qs (sym eq ∙ empty))

  without_parts : (d e : Degree) (a b : Form) → Tells d (Some a) (form_value value a) → Tells e (Some b) (form_value value b) → (is_constant_degree d ≡ true) ⊎ (is_constant_degree e ≡ true) → (a.parts ≡ []) ⊎ (b.parts ≡ [])
  without_parts d e a b p q (inl c) = inl (p.constant c)
  without_parts d e a b p q (inr c) = inr (q.constant c)

  -- of an undefined part
  tells_none : (d : Degree) → Tells d None None
  tells_none d = record { is = refl; low = tt; constant = λ c. tt }

  products : (d e : Degree) → is_within (product_degree d e) ≡ true → (f g : Option Form) → Tells d f (optional_form_value value f) → Tells e g (optional_form_value value g) → Tells (product_degree d e) (product_forms f g) (times (optional_form_value value f) (optional_form_value value g))
  products d e w (Some a) (Some b) p q = product-tells d e a b p q (without_parts d e a b p q (one_is_constant d e w)) a.parts b.parts refl refl
  products d e w (Some a) None p q = subst (Tells (product_degree d e) None) (sym (times_none (form_value value a))) (tells_none (product_degree d e))
  products d e w None g p q = tells_none (product_degree d e)

  -- what is told of a value, said of the form's value
  own : (d : Degree) (f : Option Form) (x : Option Number) → Tells d f x → Tells d f (optional_form_value value f)
  own d f x p = subst (Tells d f) p.is p

  pub tells_product : (d e : Degree) → is_within (product_degree d e) ≡ true → (f g : Option Form) (x y : Option Number) → Tells d f x → Tells e g y → Tells (product_degree d e) (product_forms f g) (times x y)
  tells_product d e w f g x y p q =
      subst (Tells (product_degree d e) (product_forms f g)) (sym (ap₂ times p.is q.is)) (products d e w f g (own d f x p) (own e g y q))

  quotient-tells : (d e : Degree) (a : Form) (c : Number) → Proper c → is_constant_degree e ≡ true → Tells d (Some a) (form_value value a) → (inverse : Option Number) → quotient_of (whole (pos 1)) c ≡ inverse → Tells (quotient_degree d e) (scaled_by a inverse) (over (form_value value a) (Some c))
  quotient-tells d e a c low k p (Some q) is = record {
    is = over_inverse (form_value value a) c q is ∙ sym (form_value-scaled value lowest q a (quotient_of-proper (whole (pos 1)) c q (whole-proper (pos 1)).positive is));
    low = scaled_form_lowest q a (quotient_of-proper (whole (pos 1)) c q (whole-proper (pos 1)).positive is) p.low;
    constant = λ t. ap (map (scaled_part q)) (p.constant (constant_quotient d e k t));
  }
  quotient-tells d e a c low k p None is = subst (Tells (quotient_degree d e) None) (sym (over_nothing (form_value value a) c is)) (tells_none (quotient_degree d e))

  quotients : (d e : Degree) → is_within (quotient_degree d e) ≡ true → (f g : Option Form) → Tells d f (optional_form_value value f) → Tells e g (optional_form_value value g) → Tells (quotient_degree d e) (quotient_forms f g) (over (optional_form_value value f) (optional_form_value value g))
  quotients d e w (Some a) (Some b) p q =
      let k = (within_quotient d e w).1 in
      let none = q.constant k in
      let divided = quotient-tells d e a b.constant q.low.constant k p (quotient_of (whole (pos 1)) b.constant) refl in
      subst (λ y. Tells (quotient_degree d e) (quotient_form a b) (over (form_value value a) y)) (sym (constant_value b q.low none))
      (subst (λ ps. Tells (quotient_degree d e) (quotient_over a b.constant ps) (over (form_value value a) (Some b.constant))) (sym none) divided)
  quotients d e w (Some a) None p q = subst (Tells (quotient_degree d e) None) (sym (over_none (form_value value a))) (tells_none (quotient_degree d e))
  quotients d e w None g p q = tells_none (quotient_degree d e)

  pub tells_quotient : (d e : Degree) → is_within (quotient_degree d e) ≡ true → (f g : Option Form) (x y : Option Number) → Tells d f x → Tells e g y → Tells (quotient_degree d e) (quotient_forms f g) (over x y)
  tells_quotient d e w f g x y p q =
      subst (Tells (quotient_degree d e) (quotient_forms f g)) (sym (ap₂ over p.is q.is)) (quotients d e w f g (own d f x p) (own e g y q))

  form_lowest : (f : Option Form) → IfSome f IsLowestForm → IsLowest (optional_form_value value f)
  form_lowest (Some a) p = form_value_lowest value lowest a p
  form_lowest None p = tt

  pub tells_lowest : (d : Degree) (f : Option Form) (x : Option Number) → Tells d f x → IsLowest x
  tells_lowest d f x p = subst IsLowest (sym p.is) (form_lowest f p.low)
