-- A sight that is reached stays so after an action, in a family to which one more round adds nothing.
use Rattle.std.proofs.Common.{◌≡◌, ℕ, zero, suc, ◌<◌, ◌⊎◌, inl, inr, Bool, true, false, not, ◌&&◌, if◌then◌else◌, nat_eq, Ordering, Less, Greater, List, [], ◌∷◌, ◌++◌, map, filter, length, slice_index_or, Option, Some, None, refl, sym, ap, subst, ◌∙◌, arith, true≢false}
use Rattle.std.specs.List.{Contains, flat_map, fold, list_all, list_any}
use Rattle.std.proofs.lemmas.Bool.{and_from, and_parts, eqb-true, or_parts}
use Rattle.std.proofs.lemmas.List.Folds.{list_all-append}
use Rattle.mf_fraction.specs.Exact.{Number, Proper, sum_of, difference_of, product_of, quotient_of}
use Rattle.mf_fraction.proofs.Algebra.{difference_of-proper, product_of-proper, quotient_of-proper, sum_of-proper}
use Rattle.mf_model.specs.declared.task.Op.{Op}
use Rattle.mf_model.specs.declared.task.Op.TheVariants.{Assign, Increase, Decrease, ScaleUp, ScaleDown}
use Rattle.mf_model.specs.Application.{new_value}
use Rattle.mf_model.specs.Meaning.{minus, over, plus, times, with_both}
use Rattle.mf_task.specs.declared.form.Form.{Form}
use Rattle.mf_task.specs.declared.ground.GroundChange.{GroundChange}
use Rattle.mf_task.specs.declared.ground.GroundChange.TheVariants as change
use Rattle.mf_task.specs.declared.ground.GroundEffect.{GroundEffect}
use Rattle.mf_task.specs.declared.ground.GroundAction.{GroundAction}
use Rattle.mf_task.specs.declared.task.Task.{Task}
use Rattle.mf_task.specs.GroundMeaning.{action_firing, adds_atom, deletes_atom, ground_firing, ground_holds, next_sight, optional_form_at, right_side, sign, value_after}
use Rattle.mf_task.specs.LimitClosure.{Family, Gain, MayRise, MayFall, MayBeDefined, IsWithin, action_gains, change_gains, effect_gains, form_may_be_defined, gain_if, may_have_sign, may_hold, next_family, number_gains}
use Rattle.mf_task.specs.LinearForms.{form_value, optional_form_value, weight}
use Rattle.mf_task.specs.Rows.{Sight}
use Rattle.mf_limit.specs.GroundRuns.{sight_after}
use Rattle.mf_task.specs.NumberedTasks.{HasProperForms, IsProperForm, IsProperSight}
use Rattle.mf_limit.specs.Growth.{has}
use Rattle.mf_limit.proofs.Families.{either, has-gains}
use Rattle.mf_limit.proofs.FormSigns.{all-defined, both-summands, form-may, form-proper}
use Rattle.mf_limit.proofs.Fractions.{before, before-either, before-less, before-more}
use Rattle.mf_limit.proofs.Reached.{IsReached, Reaches, moves}
use Rattle.mf_limit.proofs.Truths.{holds-may}

-- what holds of all that a list of lists gives holds of what one of them gives
all-at : {X Y : Type 0} (test : Y → Bool) (f : X → List Y) (xs : List X) (x : X) (k : ℕ) → k < length xs → slice_index_or xs k x ≡ x → list_all test (flat_map f xs) ≡ true → list_all test (f x) ≡ true
all-at test f [] x k low is all = absurd (omega (arith, low))
all-at test f (y ∷ ys) x zero low is all =
    ap (λ z. list_all test (f z)) (sym is) ∙ (and_parts (list_all test (f y)) (list_all test (flat_map f ys)) (sym (list_all-append test (f y) (flat_map f ys)) ∙ all)).0
all-at test f (y ∷ ys) x (suc k) low is all =
    all-at test f ys x k (omega (arith, low)) is (and_parts (list_all test (f y)) (list_all test (flat_map f ys)) (sym (list_all-append test (f y) (flat_map f ys)) ∙ all)).1

chosen : (test : Gain → Bool) (b : Bool) (gains : List Gain) → b ≡ true → list_all test (if b then gains else []) ≡ true → list_all test gains ≡ true
chosen test b gains e all = sym (ap (λ c. list_all test (if c then gains else [])) e) ∙ all

sign-moves : (f : Family) (b : Bool) (gain : Gain) → b ≡ true → list_all (has f) (gain_if b gain) ≡ true → has f gain ≡ true
sign-moves f b gain e all = (and_parts (has f gain) true (chosen (has f) b (gain ∷ []) e all)).0

module _ (task : Task) (start : Sight) (f : Family) (sight : Sight) (forms : HasProperForms task) (proper : IsProperSight start) (reaches : Reaches f start sight) where
  abbrev Grants : List Gain → Type 0
  Grants gains = list_all (has f) gains ≡ true

  -- what the changes of a list give
  abbrev granted : List GroundChange → List Gain
  granted changes = flat_map (change_gains task start f) changes

  -- one change of a value

  one-more : (term : ℕ) (old value : Option Number) → IsReached f term old value → (d : Bool) (a b c : Number) → Proper c → IsProperSight start → old ≡ Some a → start.value term ≡ old → value ≡ Some b → before d a c ≡ true → (before d b c ≡ true → moves d f term ≡ true) → moves d f term ≡ true
  one-more term old value reached d a b c pc ps old_is at value_is moved step =
      by (before-either d a b c (ps.values term a (at ∙ old_is)) (reached.proper b value_is) pc moved)
    where
      by : (before d a b ≡ true) ⊎ (before d b c ≡ true) → moves d f term ≡ true
      by (inl h) = reached.moved d a b old_is value_is h
      by (inr h) = step h

  assigned : (term : ℕ) (old : Option Number) (a : Option Form) → ((form : Form) → a ≡ Some form → IsProperForm form) → Grants (number_gains start f Assign term a) → IsReached f term old (optional_form_value sight.value a)
  assigned term old None form all = record { defined = λ b e. cc; moved = λ d a b p e h. cc; proper = λ b e. cc }
  assigned term old (Some a) form all = record {
    defined = λ b e. (gains b e).0;
    moved = λ d x b p e h. by d (gains b e).1 (gains b e).2;
    proper = λ b e. form-proper f start sight reaches a (form a refl) b e;
  }
    where
      defined : (b : Number) → form_value sight.value a ≡ Some b → form_may_be_defined f a ≡ true
      defined b e = let sum = both-summands (Some a.constant) (weight sight.value a.parts) b e in all-defined f start sight reaches a.parts sum.right_number sum.right_is

      gains : (b : Number) → form_value sight.value a ≡ Some b → (f.defined term ≡ true) × (f.up term ≡ true) × (f.down term ≡ true)
      gains b e =
          let one = and_parts (f.defined term) (f.up term && (f.down term && true)) (chosen (has f) (form_may_be_defined f a) (MayBeDefined term ∷ MayRise term ∷ MayFall term ∷ []) (defined b e) all) in
          let two = and_parts (f.up term) (f.down term && true) one.1 in
          let three = and_parts (f.down term) true two.1 in
          (one.0, two.0, three.0)

      by : (d : Bool) → f.up term ≡ true → f.down term ≡ true → moves d f term ≡ true
      by true up down = up
      by false up down = down

  -- the value was defined, and both directions are granted
  scaled : (term : ℕ) (old value : Option Number) (result : Option Number) → IsReached f term old value → f.up term ≡ true → f.down term ≡ true
      → ((c : Number) → result ≡ Some c → (b : Number) × (value ≡ Some b) × Proper c) → IsReached f term old result
  scaled term old value result reached up down was = record {
    defined = λ c e. reached.defined (was c e).0 (was c e).1;
    moved = λ d a c p e h. by d;
    proper = λ c e. (was c e).2;
  }
    where
      by : (d : Bool) → moves d f term ≡ true
      by true = up
      by false = down

  scaling : (value right : Option Number) (join : Number → Number → Option Number) → ((a b c : Number) → Proper a → Proper b → join a b ≡ Some c → Proper c) → ((b : Number) → value ≡ Some b → Proper b) → ((b : Number) → right ≡ Some b → Proper b)
      → (c : Number) → with_both join value right ≡ Some c → (b : Number) × (value ≡ Some b) × Proper c
  scaling (Some a) (Some b) join keeps left right c e = (a, refl, keeps a b c (left a refl) (right b refl) e)
  scaling (Some a) None join keeps left right c e = cc
  scaling None right_value join keeps left right c e = cc

  right-proper : (a : Option Form) → ((form : Form) → a ≡ Some form → IsProperForm form) → (b : Number) → optional_form_value sight.value a ≡ Some b → Proper b
  right-proper (Some a) form b e = form-proper f start sight reaches a (form a refl) b e
  right-proper None form b e = cc

  given : {a b : Number} → Some a ≡ Some b → a ≡ b
  given e = cc

  both-directions : (term : ℕ) → Grants (MayRise term ∷ MayFall term ∷ []) → (f.up term ≡ true) × (f.down term ≡ true)
  both-directions term all =
      let one = and_parts (f.up term) (f.down term && true) all in (one.0, (and_parts (f.down term) true one.1).0)

  sign-grants : (term : ℕ) (rise fall : Bool) → Grants (gain_if rise (MayRise term) ++ gain_if fall (MayFall term)) → (rise ≡ true → f.up term ≡ true) × (fall ≡ true → f.down term ≡ true)
  sign-grants term rise fall all =
      let both = and_parts (list_all (has f) (gain_if rise (MayRise term))) (list_all (has f) (gain_if fall (MayFall term))) (sym (list_all-append (has f) (gain_if rise (MayRise term)) (gain_if fall (MayFall term))) ∙ all) in
      (λ e. sign-moves f rise (MayRise term) e both.0, λ e. sign-moves f fall (MayFall term) e both.1)

  increased : (term : ℕ) (value : Option Number) (a : Form) (w : Number) → IsProperForm a → form_value sight.value a ≡ Some w → IsReached f term (start.value term) value → Grants (number_gains start f Increase term (Some a)) → IsReached f term (start.value term) (plus value (Some w))
  increased term None a w form is reached all = record { defined = λ b e. cc; moved = λ d a b p e h. cc; proper = λ b e. cc }
  increased term (Some b) a w form is reached all = record {
    defined = λ c e. reached.defined b refl;
    moved = λ d x c p e h. one-more term (start.value term) (Some b) reached d x b (sum_of b w) sum proper p refl refl (ap (before d x) (given e) ∙ h) (step d);
    proper = λ c e. subst Proper (given e) sum;
  }
    where
      side : Proper w
      side = form-proper f start sight reaches a form w is

      sum : Proper (sum_of b w)
      sum = sum_of-proper b w (reached.proper b refl).positive side.positive

      may : (o : Ordering) → sign w ≡ o → may_have_sign start f a o ≡ true
      may o e = subst (λ o. may_have_sign start f a o ≡ true) e (form-may f start sight reaches proper a form w is)

      step : (d : Bool) → before d b (sum_of b w) ≡ true → moves d f term ≡ true
      step true h = (sign-grants term (may_have_sign start f a Greater) (may_have_sign start f a Less) all).0 (may Greater (before-more true b w (reached.proper b refl) side h))
      step false h = (sign-grants term (may_have_sign start f a Greater) (may_have_sign start f a Less) all).1 (may Less (before-more false b w (reached.proper b refl) side h))

  decreased : (term : ℕ) (value : Option Number) (a : Form) (w : Number) → IsProperForm a → form_value sight.value a ≡ Some w → IsReached f term (start.value term) value → Grants (number_gains start f Decrease term (Some a)) → IsReached f term (start.value term) (minus value (Some w))
  decreased term None a w form is reached all = record { defined = λ b e. cc; moved = λ d a b p e h. cc; proper = λ b e. cc }
  decreased term (Some b) a w form is reached all = record {
    defined = λ c e. reached.defined b refl;
    moved = λ d x c p e h. one-more term (start.value term) (Some b) reached d x b (difference_of b w) difference proper p refl refl (ap (before d x) (given e) ∙ h) (step d);
    proper = λ c e. subst Proper (given e) difference;
  }
    where
      side : Proper w
      side = form-proper f start sight reaches a form w is

      difference : Proper (difference_of b w)
      difference = difference_of-proper b w (reached.proper b refl).positive side.positive

      may : (o : Ordering) → sign w ≡ o → may_have_sign start f a o ≡ true
      may o e = subst (λ o. may_have_sign start f a o ≡ true) e (form-may f start sight reaches proper a form w is)

      step : (d : Bool) → before d b (difference_of b w) ≡ true → moves d f term ≡ true
      step true h = (sign-grants term (may_have_sign start f a Less) (may_have_sign start f a Greater) all).0 (may Less (before-less true b w (reached.proper b refl) side h))
      step false h = (sign-grants term (may_have_sign start f a Less) (may_have_sign start f a Greater) all).1 (may Greater (before-less false b w (reached.proper b refl) side h))

  nowhere : (term : ℕ) (old value : Option Number) → value ≡ None → IsReached f term old value
  nowhere term old value none = record { defined = λ b e. cc; moved = λ d a b p e h. cc; proper = λ b e. cc }

  summed : (join : Option Number → Option Number → Option Number) → ((value : Option Number) → join value None ≡ None) → (op : Op) (term : ℕ) (value : Option Number) (a : Option Form) → ((form : Form) → a ≡ Some form → IsProperForm form)
      → ((a : Form) (w : Number) → IsProperForm a → form_value sight.value a ≡ Some w → Grants (number_gains start f op term (Some a)) → IsReached f term (start.value term) (join value (Some w)))
      → Grants (number_gains start f op term a) → IsReached f term (start.value term) (join value (optional_form_value sight.value a))
  summed join none op term value None form each all = nowhere term (start.value term) (join value None) (none value)
  summed join none op term value (Some a) form each all = by (form_value sight.value a) refl
    where
      by : (right : Option Number) → form_value sight.value a ≡ right → IsReached f term (start.value term) (join value right)
      by None is = nowhere term (start.value term) (join value None) (none value)
      by (Some w) is = each a w (form a refl) is all

  plus-none : (value : Option Number) → plus value None ≡ None
  plus-none (Some a) = refl
  plus-none None = refl

  minus-none : (value : Option Number) → minus value None ≡ None
  minus-none (Some a) = refl
  minus-none None = refl

  changed : (op : Op) (term : ℕ) (value : Option Number) (a : Option Form) → ((form : Form) → a ≡ Some form → IsProperForm form) → IsReached f term (start.value term) value → Grants (number_gains start f op term a) → IsReached f term (start.value term) (new_value op value (optional_form_value sight.value a))
  changed Assign term value a form reached all = assigned term (start.value term) a form all
  changed Increase term value a form reached all = summed plus plus-none Increase term value a form (λ a w proper_form is all. increased term value a w proper_form is reached all) all
  changed Decrease term value a form reached all = summed minus minus-none Decrease term value a form (λ a w proper_form is all. decreased term value a w proper_form is reached all) all
  changed ScaleUp term value a form reached all =
      let both = both-directions term all in
      scaled term (start.value term) value (times value (optional_form_value sight.value a)) reached both.0 both.1
      (scaling value (optional_form_value sight.value a) (λ a b. Some (product_of a b)) (λ a b c p q e. subst Proper (given e) (product_of-proper a b p.positive q.positive)) reached.proper (right-proper a form))
  changed ScaleDown term value a form reached all =
      let both = both-directions term all in
      scaled term (start.value term) value (over value (optional_form_value sight.value a)) reached both.0 both.1
      (scaling value (optional_form_value sight.value a) quotient_of (λ a b c p q e. quotient_of-proper a b c p.positive e) reached.proper (right-proper a form))

  right-form : (value : Option ℕ) (form : Form) → optional_form_at task value ≡ Some form → IsProperForm form
  right-form (Some number) form e = subst IsProperForm (same e) (forms.forms number)
    where
      same : {a b : Form} → Some a ≡ Some b → a ≡ b
      same e = cc
  right-form None form e = absurd (apart e)
    where
      apart : None ≡ Some form → ⊥
      apart e = cc

  after-change : (term : ℕ) (value : Option Number) (c : GroundChange) → IsReached f term (start.value term) value → Grants (change_gains task start f c) → IsReached f term (start.value term) (value_after task sight term value c)
  after-change term value (change.Add atom) reached all = reached
  after-change term value (change.Delete atom) reached all = reached
  after-change term value (change.Number op other right) reached all = by (nat_eq term other) refl
    where
      by : (b : Bool) → nat_eq term other ≡ b → IsReached f term (start.value term) (if b then new_value op value (right_side task sight right) else value)
      by true e = changed op term value (optional_form_at task right) (right-form right) reached (subst (λ n. Grants (number_gains start f op n (optional_form_at task right))) (sym (eqb-true term other e)) all)
      by false e = reached
  after-change term value (change.Cost right) reached all = reached
  after-change term value change.Nothing reached all = reached

  after-changes : (term : ℕ) (value : Option Number) (changes : List GroundChange) → IsReached f term (start.value term) value → Grants (granted changes) → IsReached f term (start.value term) (fold (value_after task sight term) value changes)
  after-changes term value [] reached all = reached
  after-changes term value (c ∷ cs) reached all =
      let both = and_parts (list_all (has f) (change_gains task start f c)) (list_all (has f) (granted cs)) (sym (list_all-append (has f) (change_gains task start f c) (granted cs)) ∙ all) in
      after-changes term (value_after task sight term value c) cs (after-change term value c reached both.0) both.1

  -- atoms

  added-yes : (atom : ℕ) (c : GroundChange) → Grants (change_gains task start f c) → adds_atom atom c ≡ true → f.yes atom ≡ true
  added-yes atom (change.Add added) all e = subst (λ n. f.yes n ≡ true) (sym (eqb-true atom added e)) (and_parts (f.yes added) true all).0
  added-yes atom (change.Delete deleted) all e = absurd (true≢false (sym e))
  added-yes atom (change.Number op term value) all e = absurd (true≢false (sym e))
  added-yes atom (change.Cost value) all e = absurd (true≢false (sym e))
  added-yes atom change.Nothing all e = absurd (true≢false (sym e))

  deleted-no : (atom : ℕ) (c : GroundChange) → Grants (change_gains task start f c) → deletes_atom atom c ≡ true → f.no atom ≡ true
  deleted-no atom (change.Add added) all e = absurd (true≢false (sym e))
  deleted-no atom (change.Delete deleted) all e = subst (λ n. f.no n ≡ true) (sym (eqb-true atom deleted e)) (and_parts (f.no deleted) true all).0
  deleted-no atom (change.Number op term value) all e = absurd (true≢false (sym e))
  deleted-no atom (change.Cost value) all e = absurd (true≢false (sym e))
  deleted-no atom change.Nothing all e = absurd (true≢false (sym e))

  some-change : (test : GroundChange → Bool) (goal : Bool) → ((c : GroundChange) → Grants (change_gains task start f c) → test c ≡ true → goal ≡ true) → (changes : List GroundChange) → Grants (granted changes) → list_any test changes ≡ true → goal ≡ true
  some-change test goal each [] all e = absurd (true≢false (sym e))
  some-change test goal each (c ∷ cs) all e =
      by (and_parts (list_all (has f) (change_gains task start f c)) (list_all (has f) (granted cs)) (sym (list_all-append (has f) (change_gains task start f c) (granted cs)) ∙ all)).0
      (and_parts (list_all (has f) (change_gains task start f c)) (list_all (has f) (granted cs)) (sym (list_all-append (has f) (change_gains task start f c) (granted cs)) ∙ all)).1
      (either (test c) (list_any test cs) e) (some-change test goal each cs)
    where
      by : Grants (change_gains task start f c) → Grants (granted cs) → (test c ≡ true) ⊎ (list_any test cs ≡ true) → (Grants (granted cs) → list_any test cs ≡ true → goal ≡ true) → goal ≡ true
      by one others (inl h) rest = each c one h
      by one others (inr h) rest = rest others h

  next-yes : (changes : List GroundChange) → Grants (granted changes) → (atom : ℕ) → (next_sight task sight changes).bit atom ≡ true → f.yes atom ≡ true
  next-yes changes all atom e = by (either (list_any (adds_atom atom) changes) (sight.bit atom && not (list_any (deletes_atom atom) changes)) e)
    where
      by : (list_any (adds_atom atom) changes ≡ true) ⊎ ((sight.bit atom && not (list_any (deletes_atom atom) changes)) ≡ true) → f.yes atom ≡ true
      by (inl h) = some-change (adds_atom atom) (f.yes atom) (added-yes atom) changes all h
      by (inr h) = reaches.yes atom (and_parts (sight.bit atom) (not (list_any (deletes_atom atom) changes)) h).0

  next-no : (changes : List GroundChange) → Grants (granted changes) → (atom : ℕ) → (next_sight task sight changes).bit atom ≡ false → f.no atom ≡ true
  next-no changes all atom e =
      by (sight.bit atom) (list_any (deletes_atom atom) changes) refl refl (or_parts (list_any (adds_atom atom) changes) (sight.bit atom && not (list_any (deletes_atom atom) changes)) e).1
    where
      by : (b c : Bool) → sight.bit atom ≡ b → list_any (deletes_atom atom) changes ≡ c → (b && not c) ≡ false → f.no atom ≡ true
      by false c is deleted h = reaches.no atom is
      by true true is deleted h = some-change (deletes_atom atom) (f.no atom) (deleted-no atom) changes all deleted
      by true false is deleted h = absurd (true≢false h)

  pub reaches-next : (changes : List GroundChange) → Grants (granted changes) → Reaches f start (next_sight task sight changes)
  reaches-next changes all = record {
    yes = next-yes changes all;
    no = next-no changes all;
    values = λ term. after-changes term (sight.value term) changes (reaches.values term) all;
  }

  -- what fires is granted

  firing-granted : (effects : List GroundEffect) → Grants (flat_map (effect_gains task start f) effects) → Grants (granted (ground_firing task sight effects))
  firing-granted [] all = refl
  firing-granted (effect ∷ effects) all =
      by (ground_holds task sight effect.condition) refl (and_parts (list_all (has f) (effect_gains task start f effect)) (list_all (has f) (flat_map (effect_gains task start f) effects)) (sym (list_all-append (has f) (effect_gains task start f effect) (flat_map (effect_gains task start f) effects)) ∙ all)).0
      (firing-granted effects (and_parts (list_all (has f) (effect_gains task start f effect)) (list_all (has f) (flat_map (effect_gains task start f) effects)) (sym (list_all-append (has f) (effect_gains task start f effect) (flat_map (effect_gains task start f) effects)) ∙ all)).1)
    where
      others : List GroundEffect
      others = filter (λ e. ground_holds task sight e.condition) effects

      by : (b : Bool) → ground_holds task sight effect.condition ≡ b → Grants (effect_gains task start f effect) → Grants (granted (ground_firing task sight effects))
          → Grants (granted (map (λ e. e.change) (if b then effect ∷ others else others)))
      by true holds one rest =
          let own = chosen (has f) (may_hold task start f effect.condition) (change_gains task start f effect.change) (holds-may task start f sight forms proper reaches effect.condition holds) one in
          list_all-append (has f) (change_gains task start f effect.change) (granted (ground_firing task sight effects)) ∙ and_from (list_all (has f) (change_gains task start f effect.change)) (list_all (has f) (granted (ground_firing task sight effects))) own rest
      by false holds one rest = rest

  pub reaches-after : (action : GroundAction) → Contains task.actions action → ground_holds task sight action.condition ≡ true → IsWithin (next_family task start f) f → Reaches f start (sight_after task sight action)
  reaches-after action there holds closed =
      let all = has-gains f f (flat_map (action_gains task start f) task.actions) closed in
      let own = all-at (has f) (action_gains task start f) task.actions action there.0 there.1 there.2 all in
      let fires = chosen (has f) (may_hold task start f action.condition) (flat_map (effect_gains task start f) action.effects) (holds-may task start f sight forms proper reaches action.condition holds) own in
      reaches-next (action_firing task sight action) (firing-granted action.effects fires)
