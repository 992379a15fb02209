-- The value of a sum, a multiple and a difference of forms.
use Rattle.std.proofs.Common.{◌≡◌, ℕ, pos, Bool, true, false, nat_eq, nat_lt, List, [], ◌∷◌, map, Option, Some, refl, sym, ap, ◌∙◌}
use Rattle.std.specs.Prelude.{if◌then◌else◌}
use Rattle.std.specs.List.{AllByRecursion}
use Rattle.std.proofs.lemmas.Bool.{eqb-true}
use Rattle.mf_fraction.specs.Exact.{Number, Proper, sum_of, product_of}
use Rattle.mf_fraction.proofs.Algebra.{sum_of-proper, product_of-proper}
use Rattle.mf_fraction.proofs.Reduced.{whole-proper}
use Rattle.mf_model.specs.Meaning.{minus, negated, plus, times}
use Rattle.mf_task.specs.declared.form.Form.{Form}
use Rattle.mf_task.specs.declared.form.Part.{Part}
use Rattle.mf_task.specs.LinearForms.{constant_form, difference_form, form_value, minus_one, negative_form, scaled_form, scaled_part, sum_form, weight, with_part, with_parts}
use Rattle.mf_bridge.proofs.Numbers.{IsLowest, factors_plus, minus_times, negated_times, plus_assoc, plus_comm, plus_lowest, plus_pairs, plus_swap, plus_zero, times_assoc, times_lowest, times_plus, times_zero}

-- coefficients in lowest terms
abbrev pub AreLowest : List Part → Type 0
AreLowest = AllByRecursion (λ p. Proper p.coefficient)

pub record IsLowestForm (a : Form) : Type 0 where
  pub constant : Proper a.constant
  pub parts : AreLowest a.parts

with_part_lowest : (qs : List Part) (p : Part) → AreLowest qs → Proper p.coefficient → AreLowest (with_part qs p)
with_part_lowest [] p low one = (one, tt)
with_part_lowest (q ∷ qs) p low one = put (with_part_lowest qs p low.1 one) (nat_lt p.term q.term) (nat_eq p.term q.term)
  where
    put : AreLowest (with_part qs p) → (before same : Bool) → AreLowest (if before then p ∷ q ∷ qs else (if same then record { coefficient = sum_of q.coefficient p.coefficient; term = q.term } ∷ qs else q ∷ with_part qs p))
    put rest true same = (one, low)
    put rest false true = (sum_of-proper q.coefficient p.coefficient low.0.positive one.positive, low.1)
    put rest false false = (low.0, rest)

with_parts_lowest : (qs ps : List Part) → AreLowest qs → AreLowest ps → AreLowest (with_parts qs ps)
with_parts_lowest qs [] low other = low
with_parts_lowest qs (p ∷ ps) low other = with_parts_lowest (with_part qs p) ps (with_part_lowest qs p low other.0) other.1

scaled_lowest : (k : Number) (ps : List Part) → Proper k → AreLowest ps → AreLowest (map (scaled_part k) ps)
scaled_lowest k [] factor low = tt
scaled_lowest k (p ∷ ps) factor low = (product_of-proper k p.coefficient factor.positive low.0.positive, scaled_lowest k ps factor low.1)

pub sum_form_lowest : (a b : Form) → IsLowestForm a → IsLowestForm b → IsLowestForm (sum_form a b)
sum_form_lowest a b p q = record {
  constant = sum_of-proper a.constant b.constant p.constant.positive q.constant.positive;
  parts = with_parts_lowest a.parts b.parts p.parts q.parts;
}

pub scaled_form_lowest : (k : Number) (a : Form) → Proper k → IsLowestForm a → IsLowestForm (scaled_form k a)
scaled_form_lowest k a factor p = record {
  constant = product_of-proper k a.constant factor.positive p.constant.positive;
  parts = scaled_lowest k a.parts factor p.parts;
}

pub negative_form_lowest : (a : Form) → IsLowestForm a → IsLowestForm (negative_form a)
negative_form_lowest a p = scaled_form_lowest minus_one a (whole-proper _) p

module _ (value : ℕ → Option Number) (lowest : (term : ℕ) → IsLowest (value term)) where
  one_part_lowest : (p : Part) → Proper p.coefficient → IsLowest (times (Some p.coefficient) (value p.term))
  one_part_lowest p low = times_lowest (Some p.coefficient) (value p.term) low (lowest p.term)

  pub weight_lowest : (ps : List Part) → AreLowest ps → IsLowest (weight value ps)
  weight_lowest [] low = whole-proper (pos 0)
  weight_lowest (p ∷ ps) low = plus_lowest (times (Some p.coefficient) (value p.term)) (weight value ps) (one_part_lowest p low.0) (weight_lowest ps low.1)

  weight-with_part : (qs : List Part) (p : Part) → weight value (with_part qs p) ≡ plus (times (Some p.coefficient) (value p.term)) (weight value qs)
  weight-with_part [] p = refl
  weight-with_part (q ∷ qs) p = put (weight-with_part qs p) (nat_lt p.term q.term) (nat_eq p.term q.term) refl
    where
      put : (weight value (with_part qs p) ≡ plus (times (Some p.coefficient) (value p.term)) (weight value qs)) → (before same : Bool) → nat_eq p.term q.term ≡ same →
          weight value (if before then p ∷ q ∷ qs else (if same then record { coefficient = sum_of q.coefficient p.coefficient; term = q.term } ∷ qs else q ∷ with_part qs p)) ≡ plus (times (Some p.coefficient) (value p.term)) (plus (times (Some q.coefficient) (value q.term)) (weight value qs))
      put rest true same e = refl
      put rest false true e =
          ap (λ (x : Option Number). plus x (weight value qs)) (factors_plus q.coefficient p.coefficient (value q.term) (lowest q.term))
          ∙ plus_assoc (times (Some q.coefficient) (value q.term)) (times (Some p.coefficient) (value q.term)) (weight value qs)
          ∙ plus_swap (times (Some q.coefficient) (value q.term)) (times (Some p.coefficient) (value q.term)) (weight value qs)
          ∙ ap (λ (n : ℕ). plus (times (Some p.coefficient) (value n)) (plus (times (Some q.coefficient) (value q.term)) (weight value qs))) (sym (eqb-true p.term q.term e))
      put rest false false e =
          ap (plus (times (Some q.coefficient) (value q.term))) rest
          ∙ plus_swap (times (Some q.coefficient) (value q.term)) (times (Some p.coefficient) (value p.term)) (weight value qs)

  weight-with_parts : (qs ps : List Part) → AreLowest qs → AreLowest ps → weight value (with_parts qs ps) ≡ plus (weight value qs) (weight value ps)
  weight-with_parts qs [] low other = sym (plus_zero (weight value qs) (weight_lowest qs low))
  weight-with_parts qs (p ∷ ps) low other =
      weight-with_parts (with_part qs p) ps (with_part_lowest qs p low other.0) other.1
      ∙ ap (λ (x : Option Number). plus x (weight value ps)) (weight-with_part qs p ∙ plus_comm (times (Some p.coefficient) (value p.term)) (weight value qs))
      ∙ plus_assoc (weight value qs) (times (Some p.coefficient) (value p.term)) (weight value ps)

  weight-scaled : (k : Number) (ps : List Part) → Proper k → weight value (map (scaled_part k) ps) ≡ times (Some k) (weight value ps)
  weight-scaled k [] factor = ap Some (sym (times_zero k factor))
  weight-scaled k (p ∷ ps) factor =
      ap (plus (times (Some (product_of k p.coefficient)) (value p.term))) (weight-scaled k ps factor)
      ∙ ap (λ (x : Option Number). plus x (times (Some k) (weight value ps))) (times_assoc (Some k) (Some p.coefficient) (value p.term))
      ∙ sym (times_plus k (times (Some p.coefficient) (value p.term)) (weight value ps) factor)

  pub form_value_lowest : (a : Form) → IsLowestForm a → IsLowest (form_value value a)
  form_value_lowest a p = plus_lowest (Some a.constant) (weight value a.parts) p.constant (weight_lowest a.parts p.parts)

  pub form_value-constant : (a : Number) → Proper a → form_value value (constant_form a) ≡ Some a
  form_value-constant a p = plus_zero (Some a) p

  pub form_value-sum : (a b : Form) → IsLowestForm a → IsLowestForm b → form_value value (sum_form a b) ≡ plus (form_value value a) (form_value value b)
  form_value-sum a b p q =
      ap (plus (Some (sum_of a.constant b.constant))) (weight-with_parts a.parts b.parts p.parts q.parts)
      ∙ plus_pairs (Some a.constant) (Some b.constant) (weight value a.parts) (weight value b.parts)

  pub form_value-scaled : (k : Number) (a : Form) → Proper k → form_value value (scaled_form k a) ≡ times (Some k) (form_value value a)
  form_value-scaled k a factor =
      ap (plus (Some (product_of k a.constant))) (weight-scaled k a.parts factor) ∙ sym (times_plus k (Some a.constant) (weight value a.parts) factor)

  pub form_value-negative : (a : Form) → IsLowestForm a → form_value value (negative_form a) ≡ negated (form_value value a)
  form_value-negative a p =
      form_value-scaled minus_one a (whole-proper _) ∙ sym (negated_times (form_value value a) (form_value_lowest a p))

  pub form_value-difference : (a b : Form) → IsLowestForm a → IsLowestForm b → form_value value (difference_form a b) ≡ minus (form_value value a) (form_value value b)
  form_value-difference a b p q =
      form_value-sum a (negative_form b) p (negative_form_lowest b q)
      ∙ ap (plus (form_value value a)) (form_value-scaled minus_one b (whole-proper _))
      ∙ sym (minus_times (form_value value a) (form_value value b))
