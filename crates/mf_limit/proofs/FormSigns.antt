-- A form that is defined at a reached sight has a sign there that the family says that it may have.
use Rattle.std.proofs.Common.{◌≡◌, ℕ, ◌⊎◌, inl, inr, Bool, true, false, not, if◌then◌else◌, Ordering, Less, Equal, Greater, List, [], ◌∷◌, Option, Some, None, refl, sym, ap, ap₂, subst, ◌∙◌, true≢false}
use Rattle.std.specs.List.{AllByRecursion, list_all, list_any}
use Rattle.std.proofs.lemmas.Bool.{and_from, or_left, or_right}
use Rattle.mf_fraction.specs.Exact.{Number, Proper, fits, sum_of, product_of}
use Rattle.mf_fraction.proofs.Algebra.{sum_of-assoc, sum_of-comm, sum_of-proper, sum_of-zero, product_of-proper, product_of-zero}
use Rattle.mf_model.specs.declared.task.Relation.TheVariants as relation
use Rattle.mf_model.specs.Meaning.{plus, times}
use Rattle.mf_task.specs.declared.form.Form.{Form}
use Rattle.mf_task.specs.declared.form.Part.{Part}
use Rattle.mf_task.specs.GroundMeaning.{relates, sign}
use Rattle.mf_task.specs.LimitClosure.{Family, form_may_be_defined, if_fits, is_zero, known_value, lifts, lowers, may_get, may_go_down, may_go_up, may_have_sign, sign_of_known, then_some}
use Rattle.mf_task.specs.LinearForms.{form_value, weight}
use Rattle.mf_task.specs.Rows.{Sight}
use Rattle.mf_task.specs.NumberedTasks.{IsProperForm, IsProperSight}
use Rattle.mf_limit.proofs.Fractions.{before, before-self, before-sum, before-times-above, before-times-under, equal-greater, less-equal, less-greater, nothing, nothing-proper, sign-zero}
use Rattle.mf_limit.proofs.Reached.{IsReached, Reaches, moves}

-- a term with a coefficient of this sign moves the form in the direction
abbrev pub pulls : Bool → Family → Ordering → ℕ → Bool
pulls true f o term = lifts f o term
pulls false f o term = lowers f o term

abbrev pub pulled : Bool → Family → List Part → Bool
pulled d f ps = list_any (λ p. pulls d f (sign p.coefficient) p.term) ps

pub record IsSome (value : Option Number) : Type 0 where
  pub number : Number
  pub is : value ≡ Some number

-- both parts of a defined sum, both factors of a defined product
pub record AreBoth (join : Number → Number → Number) (left right : Option Number) (result : Number) : Type 0 where
  pub left_number : Number
  pub right_number : Number
  pub left_is : left ≡ Some left_number
  pub right_is : right ≡ Some right_number
  pub result_is : join left_number right_number ≡ result

pub both-summands : (left right : Option Number) (w : Number) → plus left right ≡ Some w → AreBoth sum_of left right w
both-summands (Some a) (Some b) w e = record { left_number = a; right_number = b; left_is = refl; right_is = refl; result_is = cc }
both-summands (Some a) None w e = cc
both-summands None right w e = cc

pub both-factors : (left right : Option Number) (w : Number) → times left right ≡ Some w → AreBoth product_of left right w
both-factors (Some a) (Some b) w e = record { left_number = a; right_number = b; left_is = refl; right_is = refl; result_is = cc }
both-factors (Some a) None w e = cc
both-factors None right w e = cc

-- the terms of a defined form are defined
pub all-defined : (f : Family) (start sight : Sight) → Reaches f start sight → (ps : List Part) (w : Number) → weight sight.value ps ≡ Some w → list_all (λ p. f.defined p.term) ps ≡ true
all-defined f start sight reaches [] w e = refl
all-defined f start sight reaches (p ∷ ps) w e =
    let sum = both-summands (times (Some p.coefficient) (sight.value p.term)) (weight sight.value ps) w e in
    let product = both-factors (Some p.coefficient) (sight.value p.term) sum.left_number sum.left_is in
    and_from (f.defined p.term) (list_all (λ p. f.defined p.term) ps) ((reaches.values p.term).defined product.right_number product.right_is) (all-defined f start sight reaches ps sum.right_number sum.right_is)

weight-proper : (f : Family) (start sight : Sight) → Reaches f start sight → (ps : List Part) → AllByRecursion (λ p. Proper p.coefficient) ps → (w : Number) → weight sight.value ps ≡ Some w → Proper w
weight-proper f start sight reaches [] proper w e = subst Proper (same e) nothing-proper
  where
    same : Some nothing ≡ Some w → nothing ≡ w
    same e = cc
weight-proper f start sight reaches (p ∷ ps) proper w e =
    let sum = both-summands (times (Some p.coefficient) (sight.value p.term)) (weight sight.value ps) w e in
    let product = both-factors (Some p.coefficient) (sight.value p.term) sum.left_number sum.left_is in
    let term = (reaches.values p.term).proper product.right_number product.right_is in
    let first : Proper sum.left_number = subst Proper (product.result_is) (product_of-proper product.left_number product.right_number (subst Proper (given product.left_is) proper.0).positive term.positive) in
    let rest = weight-proper f start sight reaches ps proper.1 sum.right_number sum.right_is in
    subst Proper sum.result_is (sum_of-proper sum.left_number sum.right_number first.positive rest.positive)
  where
    given : {a b : Number} → Some a ≡ Some b → a ≡ b
    given e = cc

pub form-proper : (f : Family) (start sight : Sight) → Reaches f start sight → (a : Form) → IsProperForm a → (w : Number) → form_value sight.value a ≡ Some w → Proper w
form-proper f start sight reaches a proper w e =
    let sum = both-summands (Some a.constant) (weight sight.value a.parts) w e in
    let rest = weight-proper f start sight reaches a.parts proper.coefficients sum.right_number sum.right_is in
    subst Proper sum.result_is (sum_of-proper sum.left_number sum.right_number (subst Proper (given sum.left_is) proper.constant).positive rest.positive)
  where
    given : {a b : Number} → Some a ≡ Some b → a ≡ b
    given e = cc

-- the first step of the value at the start
pub record IsStep (start : Sight) (a : Number) (p : Part) (ps : List Part) (v : Number) : Type 0 where
  pub number : Number
  pub is : start.value p.term ≡ Some number
  pub rest : known_value start (sum_of a (product_of p.coefficient number)) ps ≡ Some v

fitting : (c : Number) (rest : Number → Option Number) (v : Number) → if_fits c rest ≡ Some v → rest c ≡ Some v
fitting c rest v e = by (fits c) e
  where
    by : (b : Bool) → (if b then rest c else None) ≡ Some v → rest c ≡ Some v
    by true e = e
    by false e = cc

step-of : (start : Sight) (a : Number) (p : Part) (ps : List Part) (v : Number) → is_zero p.coefficient ≡ false → known_value start a (p ∷ ps) ≡ Some v → IsStep start a p ps v
step-of start a p ps v zero e =
    by (start.value p.term) refl (sym (ap (λ b. if b then known_value start a ps else then_some (start.value p.term) onward) zero) ∙ e)
  where
    onward : Number → Option Number
    onward n = if_fits (product_of p.coefficient n) (λ product. if_fits (sum_of a product) (λ sum. known_value start sum ps))

    by : (value : Option Number) → start.value p.term ≡ value → then_some value onward ≡ Some v → IsStep start a p ps v
    by (Some n) is e = record {
      number = n;
      is = is;
      rest = fitting (sum_of a (product_of p.coefficient n)) (λ sum. known_value start sum ps) v (fitting (product_of p.coefficient n) (λ product. if_fits (sum_of a product) (λ sum. known_value start sum ps)) v e);
    }
    by None is e = cc

zero-step : (start : Sight) (a : Number) (p : Part) (ps : List Part) (v : Number) → is_zero p.coefficient ≡ true → known_value start a (p ∷ ps) ≡ Some v → known_value start a ps ≡ Some v
zero-step start a p ps v zero e =
    sym (ap (λ b. if b then known_value start a ps else then_some (start.value p.term) (λ n. if_fits (product_of p.coefficient n) (λ product. if_fits (sum_of a product) (λ sum. known_value start sum ps)))) zero) ∙ e

-- a product that has moved pulls the form
product-pulls : (f : Family) (term : ℕ) (old value : Option Number) → IsReached f term old value → (d : Bool) (c a b : Number) → Proper c → Proper a → Proper b → old ≡ Some a → value ≡ Some b → before d (product_of c a) (product_of c b) ≡ true → is_zero c ≡ false → pulls d f (sign c) term ≡ true
product-pulls f term old value reached d c a b p q r old_is value_is moved apart = by (sign c) refl
  where
    turned : (d : Bool) (x y : Number) → before d y x ≡ before (not d) x y
    turned true x y = refl
    turned false x y = refl

    lifted : (d : Bool) → moves d f term ≡ true → pulls d f Greater term ≡ true
    lifted true h = h
    lifted false h = h

    lowered : (d : Bool) → moves (not d) f term ≡ true → pulls d f Less term ≡ true
    lowered true h = h
    lowered false h = h

    by : (o : Ordering) → sign c ≡ o → pulls d f o term ≡ true
    by Greater e = lifted d (reached.moved d a b old_is value_is (sym (before-times-above d c a b p q r e) ∙ moved))
    by Less e = lowered d (reached.moved (not d) a b old_is value_is (sym (turned d a b) ∙ sym (before-times-under d c a b p q r e) ∙ moved))
    by Equal e = absurd (true≢false (sym (zero_by e) ∙ apart))
      where
        zero_by : sign c ≡ Equal → is_zero c ≡ true
        zero_by e = ap (λ o. is_equal o) e
          where
            is_equal : Ordering → Bool
            is_equal Less = false
            is_equal Equal = true
            is_equal Greater = false

equal-by-zero : (c : Number) → is_zero c ≡ true → sign c ≡ Equal
equal-by-zero c e = by (sign c) refl e
  where
    by : (o : Ordering) → sign c ≡ o → relates relation.Equal o ≡ true → sign c ≡ Equal
    by Less is e = absurd (true≢false (sym e))
    by Equal is e = is
    by Greater is e = absurd (true≢false (sym e))

given : {a b : Number} → Some a ≡ Some b → a ≡ b
given e = cc

-- where the value of a form has moved in a direction, its first number has, or a term pulls it
pub moved-form : (f : Family) (start sight : Sight) → Reaches f start sight → IsProperSight start → (d : Bool) (ps : List Part) → AllByRecursion (λ p. Proper p.coefficient) ps
    → (a b v w : Number) → Proper a → Proper b → known_value start a ps ≡ Some v → weight sight.value ps ≡ Some w → before d v (sum_of b w) ≡ true → (before d a b ≡ true) ⊎ (pulled d f ps ≡ true)
moved-form f start sight reaches proper d [] parts a b v w pa pb known e moved =
    inl (ap₂ (before d) (given known) (sym (sum_of-zero b pb) ∙ sum_of-comm nothing b ∙ ap (sum_of b) (given e)) ∙ moved)
moved-form f start sight reaches proper d (p ∷ ps) parts a b v w pa pb known e moved =
    by (is_zero p.coefficient) refl (both-summands (times (Some p.coefficient) (sight.value p.term)) (weight sight.value ps) w e) (moved-form f start sight reaches proper d ps parts.1)
  where
    Claim : Type 0
    Claim = (before d a b ≡ true) ⊎ (pulled d f (p ∷ ps) ≡ true)

    later : (before d a b ≡ true) ⊎ (pulled d f ps ≡ true) → Claim
    later (inl h) = inl h
    later (inr h) = inr (or_right (pulls d f (sign p.coefficient) p.term) (pulled d f ps) h)

    parted : (n m : Number) → Proper n → Proper m → start.value p.term ≡ Some n → sight.value p.term ≡ Some m → is_zero p.coefficient ≡ false → (before d a b ≡ true) ⊎ (before d (product_of p.coefficient n) (product_of p.coefficient m) ≡ true) → Claim
    parted n m pn pm n_is m_is zero (inl h) = inl h
    parted n m pn pm n_is m_is zero (inr h) =
        inr (or_left (pulls d f (sign p.coefficient) p.term) (pulled d f ps) (product-pulls f p.term (start.value p.term) (sight.value p.term) (reaches.values p.term) d p.coefficient n m parts.0 pn pm n_is m_is h zero))

    split : (n m : Number) → Proper n → Proper m → start.value p.term ≡ Some n → sight.value p.term ≡ Some m → is_zero p.coefficient ≡ false
        → (before d (sum_of a (product_of p.coefficient n)) (sum_of b (product_of p.coefficient m)) ≡ true) ⊎ (pulled d f ps ≡ true) → Claim
    split n m pn pm n_is m_is zero (inr h) = later (inr h)
    split n m pn pm n_is m_is zero (inl h) =
        parted n m pn pm n_is m_is zero
        (before-sum d a b (product_of p.coefficient n) (product_of p.coefficient m) pa pb (product_of-proper p.coefficient n parts.0.positive pn.positive) (product_of-proper p.coefficient m parts.0.positive pm.positive) h)

    by : (zero : Bool) → is_zero p.coefficient ≡ zero → AreBoth sum_of (times (Some p.coefficient) (sight.value p.term)) (weight sight.value ps) w
        → ((a b v w : Number) → Proper a → Proper b → known_value start a ps ≡ Some v → weight sight.value ps ≡ Some w → before d v (sum_of b w) ≡ true → (before d a b ≡ true) ⊎ (pulled d f ps ≡ true)) → Claim
    by true zero sum rest =
        let product = both-factors (Some p.coefficient) (sight.value p.term) sum.left_number sum.left_is in
        let factor : product.left_number ≡ nothing = sym (given product.left_is) ∙ sign-zero p.coefficient parts.0 (equal-by-zero p.coefficient zero) in
        let right = (reaches.values p.term).proper product.right_number product.right_is in
        let none : sum.left_number ≡ nothing = sym product.result_is ∙ ap (λ x. product_of x product.right_number) factor ∙ product_of-zero product.right_number right.positive in
        let kept : sum.right_number ≡ w = sym (sum_of-zero sum.right_number (weight-proper f start sight reaches ps parts.1 sum.right_number sum.right_is)) ∙ ap (λ x. sum_of x sum.right_number) (sym none) ∙ sum.result_is in
        later (rest a b v w pa pb (zero-step start a p ps v zero known) (sum.right_is ∙ ap Some kept) moved)
    by false zero sum rest =
        let product = both-factors (Some p.coefficient) (sight.value p.term) sum.left_number sum.left_is in
        let step = step-of start a p ps v zero known in
        let right = (reaches.values p.term).proper product.right_number product.right_is in
        let old = proper.values p.term step.number step.is in
        let was = product_of-proper p.coefficient step.number parts.0.positive old.positive in
        let now = product_of-proper p.coefficient product.right_number parts.0.positive right.positive in
        let result : product_of p.coefficient product.right_number ≡ sum.left_number = ap (λ x. product_of x product.right_number) (given product.left_is) ∙ product.result_is in
        let same : sum_of (sum_of b (product_of p.coefficient product.right_number)) sum.right_number ≡ sum_of b w = sum_of-assoc b (product_of p.coefficient product.right_number) sum.right_number ∙ ap (sum_of b) (ap (λ x. sum_of x sum.right_number) result ∙ sum.result_is) in
        split step.number product.right_number old right step.is product.right_is zero (rest (sum_of a (product_of p.coefficient step.number)) (sum_of b (product_of p.coefficient product.right_number)) v sum.right_number (sum_of-proper a (product_of p.coefficient step.number) pa.positive was.positive) (sum_of-proper b (product_of p.coefficient product.right_number) pb.positive now.positive) step.rest sum.right_is (ap (before d v) same ∙ moved))

-- the value at the start is in lowest terms
known-proper : (f : Family) (start : Sight) → IsProperSight start → (ps : List Part) → AllByRecursion (λ p. Proper p.coefficient) ps → (a v : Number) → Proper a → known_value start a ps ≡ Some v → Proper v
known-proper f start proper [] parts a v pa known = subst Proper (given known) pa
known-proper f start proper (p ∷ ps) parts a v pa known =
    by (is_zero p.coefficient) refl (known-proper f start proper ps parts.1)
  where
    by : (zero : Bool) → is_zero p.coefficient ≡ zero → ((a v : Number) → Proper a → known_value start a ps ≡ Some v → Proper v) → Proper v
    by true zero rest = rest a v pa (zero-step start a p ps v zero known)
    by false zero rest =
        let step = step-of start a p ps v zero known in
        let product = product_of-proper p.coefficient step.number parts.0.positive (proper.values p.term step.number step.is).positive in
        rest (sum_of a (product_of p.coefficient step.number)) v (sum_of-proper a (product_of p.coefficient step.number) pa.positive product.positive) step.rest

-- the sign that a form has is one that it may have
pub form-may : (f : Family) (start sight : Sight) → Reaches f start sight → IsProperSight start → (a : Form) → IsProperForm a → (w : Number) → form_value sight.value a ≡ Some w → may_have_sign start f a (sign w) ≡ true
form-may f start sight reaches proper a form w e =
    let sum = both-summands (Some a.constant) (weight sight.value a.parts) w e in
    and_from (form_may_be_defined f a) (may_get (sign_of_known (known_value start a.constant a.parts)) (may_go_up f a) (may_go_down f a) (sign w))
    (all-defined f start sight reaches a.parts sum.right_number sum.right_is)
    (by (known_value start a.constant a.parts) refl)
  where
    end : Proper w
    end = form-proper f start sight reaches a form w e

    value : (d : Bool) (v : Number) → known_value start a.constant a.parts ≡ Some v → before d v w ≡ true → pulled d f a.parts ≡ true
    value d v is moved = kept (both-summands (Some a.constant) (weight sight.value a.parts) w e)
      where
        only : (before d a.constant a.constant ≡ true) ⊎ (pulled d f a.parts ≡ true) → pulled d f a.parts ≡ true
        only (inl h) = absurd (true≢false (sym h ∙ before-self d a.constant))
        only (inr h) = h

        kept : AreBoth sum_of (Some a.constant) (weight sight.value a.parts) w → pulled d f a.parts ≡ true
        kept sum =
            only (moved-form f start sight reaches proper d a.parts form.coefficients a.constant a.constant v sum.right_number form.constant form.constant is sum.right_is
            (ap (before d v) (ap (λ x. sum_of x sum.right_number) (given sum.left_is) ∙ sum.result_is) ∙ moved))

    table : (v : Number) → known_value start a.constant a.parts ≡ Some v → (o p : Ordering) → sign v ≡ o → sign w ≡ p → may_get (Some o) (may_go_up f a) (may_go_down f a) p ≡ true
    table v is Less Less s t = refl
    table v is Equal Equal s t = refl
    table v is Greater Greater s t = refl
    table v is Less Equal s t = value true v is (less-equal v w end s t)
    table v is Less Greater s t = value true v is (less-greater v w end s t)
    table v is Equal Greater s t = value true v is (equal-greater v w (known-proper f start proper a.parts form.coefficients a.constant v form.constant is) s t)
    table v is Equal Less s t = value false v is (less-equal w v (known-proper f start proper a.parts form.coefficients a.constant v form.constant is) t s)
    table v is Greater Less s t = value false v is (less-greater w v (known-proper f start proper a.parts form.coefficients a.constant v form.constant is) t s)
    table v is Greater Equal s t = value false v is (equal-greater w v end t s)

    by : (known : Option Number) → known_value start a.constant a.parts ≡ known → may_get (sign_of_known known) (may_go_up f a) (may_go_down f a) (sign w) ≡ true
    by None is = refl
    by (Some v) is = table v is (sign v) (sign w) refl refl
