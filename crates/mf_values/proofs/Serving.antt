-- A need of a form that one layer meets and the layer before it does not is served by some effect.
use Rattle.std.proofs.Common.{◌≡◌, ◌≢◌, ◌⊎◌, inl, inr, ℕ, nat_eq, Bool, true, false, ◌&&◌, ◌||◌, not, if◌then◌else◌, List, [], ◌∷◌, ◌++◌, Option, Some, None, Ordering, Less, Equal, Greater, map, filter, refl, sym, ap, ap₂, subst, ◌∙◌, true≢false, is_some, ⊎_elim}
use Rattle.std.specs.List.{AllByRecursion, Contains, find, fold, flat_map, list_all, list_any}
use Rattle.std.proofs.lemmas.Bool.{and_parts, eq-eqb, or_left, or_right}
use Rattle.std.proofs.lemmas.List.{map-append, append-nil}
use Rattle.mf_search.proofs.Members.{in_cons, in_first, in_later, not_in_nil}
use Rattle.mf_task.specs.declared.form.Form.{Form}
use Rattle.mf_task.specs.declared.form.Part.{Part}
use Rattle.mf_task.specs.declared.task.Task.{Task}
use Rattle.mf_task.specs.GroundMeaning.{relates, sign}
use Rattle.mf_model.specs.declared.task.Relation.TheVariants as relation
use Rattle.mf_task.specs.Layers.{Bound, Finite, Endless, Counting, FiringEffect, Layer, Range, Want, counting, counting_of, extreme, form_is_met, form_range, has_range, high_by, high_ends, higher, is_above_zero, is_not_below_zero, listed, low_ends, low_ends_by, lower, moved_high, moved_low, next_range, optional_range_meets, range_from, range_meets, scaled_end, scaled_low, times_bound, plus_bound, with_high, with_low}
use Rattle.mf_model.specs.declared.task.Op.{Op}
use Rattle.mf_model.specs.declared.task.Op.TheVariants.{Assign, Increase, Decrease, ScaleUp, ScaleDown}
use Rattle.mf_task.specs.LimitClosure.{is_zero}
use Rattle.mf_task.specs.RelaxedPlan.{CountedEffect, Relaxation, Serving, assigned, by_effect, counted_effect, counted_effects, has_term, is_assign, is_counted_part, is_settled, take_effect, take_term, want_for, with_assign}
use Rattle.mf_fraction.specs.Exact.{Number, Proper, fits}
use Rattle.mf_task.specs.NumberedTasks.{HasProperForms, IsProperForm}
use Rattle.mf_limit.proofs.Fractions.{toward}
use Rattle.mf_meaning.proofs.LiveInstances.{contains_filter}
use Rattle.mf_values.specs.Fitting.{HasFittingConstants}
use Rattle.mf_values.proofs.Ends.{end_of}
use Rattle.mf_values.proofs.Folds.{all_append, all_contains, fold_quiet, fold_taken}
use Rattle.mf_values.proofs.Kept.{IsKeptLayer, IsKeptRange}
use Rattle.mf_values.proofs.Quiet.{HasTaken, IsKeptCounting, IsQuiet, EffectStep, IsPassed, passed, selected, effect-step, end-stays, next-is, next_of}
use Rattle.mf_values.proofs.Served.{assign-stays, counting-kept, first_serving, not-first, take-or, take-stays, taken-assigned, term-or, term-stays}

-- The effects that count for a term

one-counting : (r : Relaxation) (layer : Layer) (term : ℕ) (effect : FiringEffect) (o : Option Counting) → map (λ (c : CountedEffect). c.counted) (map (λ counted. record { effect = effect; counted = counted }) (listed o)) ≡ listed o
one-counting r layer term effect None = refl
one-counting r layer term effect (Some c) = refl

pub countings : (r : Relaxation) (layer : Layer) (term : ℕ) (firing : List FiringEffect) → map (λ (c : CountedEffect). c.counted) (counted_effects r layer term firing) ≡ counting r.task layer term firing
countings r layer term [] = refl
countings r layer term (effect ∷ firing) =
    map-append (λ (c : CountedEffect). c.counted) (counted_effect r layer term effect) (counted_effects r layer term firing)
    ∙ ap₂ (λ (xs ys : List Counting). xs ++ ys) (one-counting r layer term effect (counting_of r.task layer term effect.change)) (countings r layer term firing)

pub all-kept : (r : Relaxation) (layer : Layer) (term : ℕ) (firing : List FiringEffect) → HasProperForms r.task → HasFittingConstants r.task → IsKeptLayer layer → AllByRecursion (λ (c : CountedEffect). IsKeptCounting c.counted) (counted_effects r layer term firing)
all-kept r layer term [] proper fitting kept = tt
all-kept r layer term (effect ∷ firing) proper fitting kept =
    all_append (λ (c : CountedEffect). IsKeptCounting c.counted) (counted_effect r layer term effect) (counted_effects r layer term firing) (by (counting_of r.task layer term effect.change) refl) (all-kept r layer term firing proper fitting kept)
  where
    by : (o : Option Counting) → counting_of r.task layer term effect.change ≡ o → AllByRecursion (λ (c : CountedEffect). IsKeptCounting c.counted) (map (λ counted. record { effect = effect; counted = counted }) (listed o))
    by None e = tt
    by (Some counted) e = (counting-kept r.task layer term effect.change counted proper fitting kept e, tt)

-- Nothing is selected for a term

same-number : (n : ℕ) → nat_eq n n ≡ true
same-number n = eq-eqb n n refl

is-term : (term : ℕ) (parts : List Part) (p : Part) → Contains parts p → p.term ≡ term → list_any (λ (q : Part). nat_eq term q.term) parts ≡ true
is-term term [] p h e = absurd (not_in_nil p h)
is-term term (q ∷ parts) p h e = ⊎_elim (λ (same : q ≡ p). or_left (nat_eq term q.term) (list_any (λ (x : Part). nat_eq term x.term) parts) (ap (nat_eq term) (ap (λ (x : Part). x.term) same ∙ e) ∙ same-number term)) (λ rest. or_right (nat_eq term q.term) (list_any (λ (x : Part). nat_eq term x.term) parts) (is-term term parts p rest e)) (in_cons q parts p h)

unsettled : (layer : Layer) (want : Want) (form : Form) (p : Part) → Contains form.parts p → form_is_met layer want form ≡ false → is_settled layer want (first_serving form) p.term ≡ false
unsettled layer want form p h unmet = ap₂ (λ (s t : Bool). s || not t) unmet (is-term p.term form.parts p h refl)

-- serving takes no effect of these
abbrev NoneTaken : (layer : Layer) (want : Want) (p : Part) (form : Form) → List CountedEffect → Type 0
NoneTaken layer want p form = AllByRecursion (λ (c : CountedEffect). take_effect layer want p (first_serving form) c ≡ first_serving form)

all-quiet : (d : Bool) (layer : Layer) (want : Want) (form : Form) (p : Part) (own : Range) (cs : List CountedEffect) → layer.range p.term ≡ Some own → sign p.coefficient ≡ toward d → Proper p.coefficient → IsKeptRange own → is_settled layer want (first_serving form) p.term ≡ false → AllByRecursion (λ (c : CountedEffect). IsKeptCounting c.counted) cs → NoneTaken layer want p form cs → AllByRecursion (IsQuiet d own) (map (λ (c : CountedEffect). c.counted) cs)
all-quiet d layer want form p own [] r e q k unsettled_here kept none = tt
all-quiet d layer want form p own (c ∷ cs) r e q k unsettled_here kept none = (by (effect-step d layer p (first_serving form) c own r e q k kept.0), all-quiet d layer want form p own cs r e q k unsettled_here kept.1 none.1)
  where
    by : EffectStep d own (first_serving form) (by_effect layer p (first_serving form) c) c.counted → IsQuiet d own c.counted
    by (passed here) = here.quiet
    by (selected t) = absurd (not-first form (by_effect layer p (first_serving form) c) (ap (λ (b : Bool). if b then first_serving form else by_effect layer p (first_serving form) c) (sym unsettled_here) ∙ none.0) t)

term-none : (r : Relaxation) (layer : Layer) (want : Want) (firing : List FiringEffect) (form : Form) (p : Part) → take_term r layer want firing (first_serving form) p ≡ first_serving form → NoneTaken layer want p form (counted_effects r layer p.term firing)
term-none r layer want firing form p same = by (fold_quiet (take_effect layer want p) (first_serving form) HasTaken (take-stays layer want p) (take-or layer want p (first_serving form)) (counted_effects r layer p.term firing))
  where
    by : ((take_term r layer want firing (first_serving form) p ≡ first_serving form) × NoneTaken layer want p form (counted_effects r layer p.term firing)) ⊎ HasTaken (take_term r layer want firing (first_serving form) p) → NoneTaken layer want p form (counted_effects r layer p.term firing)
    by (inl q) = q.1
    by (inr t) = absurd (not-first form (take_term r layer want firing (first_serving form) p) same t)

no-zero : (c : Number) (d : Bool) → sign c ≡ toward d → is_zero c ≡ false
no-zero c true e = ap (relates relation.Equal) e
no-zero c false e = ap (relates relation.Equal) e

-- One layer later

-- the ranges of a layer are those after what fires at the layer before it
pub record IsAfter (task : Task) (before here : Layer) (firing : List FiringEffect) : Type 0 where
  pub ranges : (term : ℕ) → here.range term ≡ next_range (before.range term) (counting task before term firing)

range-later : (task : Task) (before here : Layer) (firing : List FiringEffect) (term : ℕ) (own : Range) → IsAfter task before here firing → before.range term ≡ Some own → here.range term ≡ Some (next_of own (counting task before term firing))
range-later task before here firing term own after r = after.ranges term ∙ ap (λ (o : Option Range). next_range o (counting task before term firing)) r ∙ next-is own (counting task before term firing)

-- a part of which nothing was selected adds the same to the upper end
high-same : (r : Relaxation) (before here : Layer) (want : Want) (firing : List FiringEffect) (form : Form) (p : Part) (own : Range) → HasProperForms r.task → HasFittingConstants r.task → IsKeptLayer before → IsAfter r.task before here firing → Proper p.coefficient → Contains form.parts p → form_is_met before want form ≡ false → before.range p.term ≡ Some own → (is_zero p.coefficient ≡ false → take_term r before want firing (first_serving form) p ≡ first_serving form) → (a : Bound) → with_high here a p ≡ with_high before a p
high-same r before here want firing form p own proper fitting kept after q h unmet is none a = by (sign p.coefficient) refl
  where
    later : here.range p.term ≡ Some (next_of own (counting r.task before p.term firing))
    later = range-later r.task before here firing p.term own after is

    quiet : (d : Bool) → sign p.coefficient ≡ toward d → is_zero p.coefficient ≡ false → end_of d (next_of own (counting r.task before p.term firing)) ≡ end_of d own
    quiet d e z =
        let effects = counted_effects r before p.term firing in
        let range-kept = kept.ranges p.term own is in
        end-stays d own (counting r.task before p.term firing) range-kept
        (subst (AllByRecursion (IsQuiet d own)) (countings r before p.term firing)
        (all-quiet d before want form p own effects is e q range-kept (unsettled before want form p h unmet) (all-kept r before p.term firing proper fitting kept) (term-none r before want firing form p (none z))))

    by : (o : Ordering) → sign p.coefficient ≡ o → high_by o (here.range p.term) p.coefficient a ≡ high_by o (before.range p.term) p.coefficient a
    by Equal e = refl
    by Greater e = ap (λ (x : Option Range). high_by Greater x p.coefficient a) later ∙ ap (λ (b : Bound). plus_bound a (times_bound p.coefficient b)) (quiet true e (no-zero p.coefficient true e)) ∙ ap (λ (x : Option Range). high_by Greater x p.coefficient a) (sym is)
    by Less e = ap (λ (x : Option Range). high_by Less x p.coefficient a) later ∙ ap (λ (b : Bound). plus_bound a (times_bound p.coefficient b)) (quiet false e (no-zero p.coefficient false e)) ∙ ap (λ (x : Option Range). high_by Less x p.coefficient a) (sym is)

-- Terms without a range

list-all-at : {X : Type 0} (p : X → Bool) (xs : List X) (x : X) → list_all p xs ≡ true → Contains xs x → p x ≡ true
list-all-at p [] x all h = absurd (not_in_nil x h)
list-all-at p (y ∷ ys) x all h =
    let parts = and_parts (p y) (list_all p ys) all in
    ⊎_elim (λ e. subst (λ z. p z ≡ true) e parts.0) (list-all-at p ys x parts.1) (in_cons y ys x h)

-- where no assign counts, the ends of changes of a term without a range are none
no-low-ends : (cs : List CountedEffect) → find (λ (c : CountedEffect). is_assign c.counted.op) cs ≡ None → flat_map (low_ends None) (map (λ (c : CountedEffect). c.counted) cs) ≡ []
no-low-ends [] e = refl
no-low-ends (c ∷ cs) e = by (is_assign c.counted.op) refl e (no-low-ends cs)
  where
    no-end : (op : Op) (factor : Option Number) (range : Range) → is_assign op ≡ false → low_ends_by op None (record { op = op; range = range; factor = factor }) ≡ []
    no-end Assign factor range a = absurd (true≢false a)
    no-end Increase factor range a = refl
    no-end Decrease factor range a = refl
    no-end ScaleUp (Some f) range a = refl
    no-end ScaleUp None range a = refl
    no-end ScaleDown (Some f) range a = refl
    no-end ScaleDown None range a = refl

    by : (b : Bool) → is_assign c.counted.op ≡ b → (if b then Some c else find (λ (x : CountedEffect). is_assign x.counted.op) cs) ≡ None → (find (λ (x : CountedEffect). is_assign x.counted.op) cs ≡ None → flat_map (low_ends None) (map (λ (x : CountedEffect). x.counted) cs) ≡ []) → low_ends None c.counted ++ flat_map (low_ends None) (map (λ (x : CountedEffect). x.counted) cs) ≡ []
    by true a f rest = absurd cc
    by false a f rest = ap₂ (λ (xs ys : List Bound). xs ++ ys) (no-end c.counted.op c.counted.factor c.counted.range a) (rest f)

-- Some effect is selected

last-range : (task : Task) (before here : Layer) (firing : List FiringEffect) (term : ℕ) → IsAfter task before here firing → before.range term ≡ None → flat_map (low_ends None) (counting task before term firing) ≡ [] → here.range term ≡ None
last-range task before here firing term after none ends =
    after.ranges term
    ∙ ap (λ (o : Option Range). next_range o (counting task before term firing)) none
    ∙ ap (λ (bs : List Bound). range_from (extreme lower bs) (extreme higher (flat_map (high_ends None) (counting task before term firing)))) ends

undefined : (layer : Layer) (want : Want) (form : Form) (p : Part) → Contains form.parts p → layer.range p.term ≡ None → form_is_met layer want form ≡ false
undefined layer want form p h none = by (list_all (λ (q : Part). has_range layer q.term) form.parts) refl
  where
    by : (b : Bool) → list_all (λ (q : Part). has_range layer q.term) form.parts ≡ b → form_is_met layer want form ≡ false
    by true e = absurd (true≢false (sym (list-all-at (λ (q : Part). has_range layer q.term) form.parts p e h) ∙ ap is_some none))
    by false e = rw e refl

-- the parts without a range: none, or a first one
data WithoutRange (layer : Layer) (parts : List Part) : Type 0 where
  never : filter (λ (p : Part). not (has_range layer p.term)) parts ≡ [] → list_all (λ (p : Part). has_range layer p.term) parts ≡ true → WithoutRange layer parts
  first : (p : Part) (others : List Part) → filter (λ (q : Part). not (has_range layer q.term)) parts ≡ p ∷ others → Contains parts p → layer.range p.term ≡ None → WithoutRange layer parts

without-range : (layer : Layer) (parts : List Part) → WithoutRange layer parts
without-range layer [] = never refl refl
without-range layer (p ∷ parts) = by (layer.range p.term) refl (without-range layer parts)
  where
    with-tail : (range : Range) → layer.range p.term ≡ Some range → WithoutRange layer parts → WithoutRange layer (p ∷ parts)
    with-tail range e (never f a) = never (ap (λ (b : Bool). if not b then p ∷ filter (λ (x : Part). not (has_range layer x.term)) parts else filter (λ (x : Part). not (has_range layer x.term)) parts) (ap is_some e) ∙ f) (ap₂ (λ (s t : Bool). s && t) (ap is_some e) a)
    with-tail range e (first q others f h n) = first q others (ap (λ (b : Bool). if not b then p ∷ filter (λ (x : Part). not (has_range layer x.term)) parts else filter (λ (x : Part). not (has_range layer x.term)) parts) (ap is_some e) ∙ f) (in_later p parts q h) n

    by : (o : Option Range) → layer.range p.term ≡ o → WithoutRange layer parts → WithoutRange layer (p ∷ parts)
    by (Some range) e rest = with-tail range e rest
    by None e rest = first p (filter (λ (x : Part). not (has_range layer x.term)) parts) (ap (λ (b : Bool). if not b then p ∷ filter (λ (x : Part). not (has_range layer x.term)) parts else filter (λ (x : Part). not (has_range layer x.term)) parts) (ap is_some e)) (in_first p parts) e

-- whether an upper end meets what is asked
abbrev pub high_meets : Bool → Bound → Bool
high_meets true = is_above_zero
high_meets false = is_not_below_zero

abbrev highest : Layer → Form → Bound
highest layer form = fold (with_high layer) (Finite form.constant) form.parts

met-high : (layer : Layer) (strict : Bool) (form : Form) → list_all (λ (p : Part). has_range layer p.term) form.parts ≡ true → form_is_met layer (want_for strict) form ≡ high_meets strict (highest layer form)
met-high layer true form all = rw all refl
met-high layer false form all = rw all refl

highs-same : (before here : Layer) (ps : List Part) → ((p : Part) → Contains ps p → (a : Bound) → with_high here a p ≡ with_high before a p) → (a : Bound) → fold (with_high here) a ps ≡ fold (with_high before) a ps
highs-same before here [] same a = refl
highs-same before here (p ∷ ps) same a =
    highs-same before here ps (λ q h. same q (in_later p ps q h)) (with_high here a p)
    ∙ ap (λ (b : Bound). fold (with_high before) b ps) (same p (in_first p ps) a)

all-by : {X : Type 0} (p : X → Bool) (xs : List X) → ((x : X) → Contains xs x → p x ≡ true) → list_all p xs ≡ true
all-by p [] each = refl
all-by p (x ∷ xs) each = ap₂ (λ (s t : Bool). s && t) (each x (in_first x xs)) (all-by p xs (λ y h. each y (in_later x xs y h)))

-- the range of a term that has one
pub record HasOwn (layer : Layer) (term : ℕ) : Type 0 where
  pub own : Range
  pub is : layer.range term ≡ Some own

own-of : (layer : Layer) (term : ℕ) → has_range layer term ≡ true → HasOwn layer term
own-of layer term h = by (layer.range term) refl
  where
    by : (o : Option Range) → layer.range term ≡ o → HasOwn layer term
    by (Some own) e = record { own = own; is = e }
    by None e = absurd (true≢false (sym h ∙ ap is_some e))

-- what is served: the task's numbers, the layers, and a form that the later one is the first to meet
pub record IsServable (r : Relaxation) (before here : Layer) (firing : List FiringEffect) (strict : Bool) (form : Form) : Type 0 where
  pub proper : HasProperForms r.task
  pub fitting : HasFittingConstants r.task
  pub kept : IsKeptLayer before
  pub after : IsAfter r.task before here firing
  pub form_proper : IsProperForm form
  pub unmet : form_is_met before (want_for strict) form ≡ false
  pub met : form_is_met here (want_for strict) form ≡ true

nothing-served : (r : Relaxation) (before here : Layer) (firing : List FiringEffect) (strict : Bool) (form : Form) → IsServable r before here firing strict form → list_all (λ (p : Part). has_range before p.term) form.parts ≡ true → AllByRecursion (λ (p : Part). take_term r before (want_for strict) firing (first_serving form) p ≡ first_serving form) (filter (is_counted_part before) form.parts) → ⊥
nothing-served r before here firing strict form s all none = true≢false (sym s.met ∙ met-high here strict form all-here ∙ ap (high_meets strict) (highs-same before here form.parts same (Finite form.constant)) ∙ sym (met-high before strict form all) ∙ s.unmet)
  where
    own : (p : Part) → Contains form.parts p → HasOwn before p.term
    own p h = own-of before p.term (list-all-at (λ (q : Part). has_range before q.term) form.parts p all h)

    counted : (p : Part) → Contains form.parts p → is_zero p.coefficient ≡ false → is_counted_part before p ≡ true
    counted p h z = ap₂ (λ (a b : Bool). a && not b) (list-all-at (λ (q : Part). has_range before q.term) form.parts p all h) z

    same : (p : Part) → Contains form.parts p → (a : Bound) → with_high here a p ≡ with_high before a p
    same p h a =
        let o = own p h in
        high-same r before here (want_for strict) firing form p o.own s.proper s.fitting s.kept s.after (all_contains (λ (q : Part). Proper q.coefficient) form.parts p s.form_proper.coefficients h) h s.unmet o.is
        (λ z. all_contains (λ (q : Part). take_term r before (want_for strict) firing (first_serving form) q ≡ first_serving form) (filter (is_counted_part before) form.parts) p none (contains_filter (is_counted_part before) form.parts p h (counted p h z))) a

    all-here : list_all (λ (p : Part). has_range here p.term) form.parts ≡ true
    all-here = all-by (λ (p : Part). has_range here p.term) form.parts (λ p h. let o = own p h in ap is_some (range-later r.task before here firing p.term o.own s.after o.is))

-- A form that a layer is the first to meet is served by some effect that fires one layer before.
pub served-some : (r : Relaxation) (before here : Layer) (firing : List FiringEffect) (strict : Bool) (form : Form) → IsServable r before here firing strict form → HasTaken (fold (take_term r before (want_for strict) firing) (fold (with_assign r before firing) (first_serving form) (filter (λ (p : Part). not (has_range before p.term)) form.parts)) (filter (is_counted_part before) form.parts))
served-some r before here firing strict form s = by (without-range before form.parts)
  where
    terms : List Part
    terms = filter (is_counted_part before) form.parts

    by-terms : list_all (λ (p : Part). has_range before p.term) form.parts ≡ true → ((fold (take_term r before (want_for strict) firing) (first_serving form) terms ≡ first_serving form) × AllByRecursion (λ (p : Part). take_term r before (want_for strict) firing (first_serving form) p ≡ first_serving form) terms) ⊎ HasTaken (fold (take_term r before (want_for strict) firing) (first_serving form) terms) → HasTaken (fold (take_term r before (want_for strict) firing) (first_serving form) terms)
    by-terms all (inl q) = absurd (nothing-served r before here firing strict form s all q.1)
    by-terms all (inr t) = t

    by-assign : (p : Part) → Contains form.parts p → before.range p.term ≡ None → (o : Option CountedEffect) → find (λ (c : CountedEffect). is_assign c.counted.op) (counted_effects r before p.term firing) ≡ o → HasTaken (assigned (first_serving form) p o)
    by-assign p h none (Some c) e = taken-assigned (first_serving form) p c
    by-assign p h none None e =
        let ends = ap (flat_map (low_ends None)) (sym (countings r before p.term firing)) ∙ no-low-ends (counted_effects r before p.term firing) e in
        absurd (true≢false (sym s.met ∙ undefined here (want_for strict) form p h (last-range r.task before here firing p.term s.after none ends)))

    by : WithoutRange before form.parts → HasTaken (fold (take_term r before (want_for strict) firing) (fold (with_assign r before firing) (first_serving form) (filter (λ (p : Part). not (has_range before p.term)) form.parts)) terms)
    by (never f all) =
        rw f (by-terms all (fold_quiet (take_term r before (want_for strict) firing) (first_serving form) HasTaken (term-stays r before (want_for strict) firing) (term-or r before (want_for strict) firing (first_serving form)) terms))
    by (first p others f h none) =
        let assigned-first = by-assign p h none (find (λ (c : CountedEffect). is_assign c.counted.op) (counted_effects r before p.term firing)) refl in
        rw f (fold_taken (take_term r before (want_for strict) firing) HasTaken (term-stays r before (want_for strict) firing) (fold (with_assign r before firing) (with_assign r before firing (first_serving form) p) others) terms
        (fold_taken (with_assign r before firing) HasTaken (assign-stays r before firing) (with_assign r before firing (first_serving form) p) others assigned-first))
