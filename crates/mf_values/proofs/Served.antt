-- A need of a form that one layer meets and the layer before it does not is served by some effect.
use Rattle.std.proofs.Common.{◌≡◌, ◌≢◌, ◌⊎◌, inl, inr, ℕ, arith, ℤ, pos, nat_eq, Bool, true, false, ◌&&◌, ◌||◌, not, if◌then◌else◌, List, [], ◌∷◌, ◌++◌, Option, Some, None, Ordering, Less, Equal, Greater, map, filter, refl, sym, ap, ap₂, subst, ◌∙◌, true≢false, is_some}
use Rattle.std.specs.List.{AllByRecursion, Contains, find, fold, flat_map, list_all, list_any}
use Rattle.std.proofs.lemmas.Bool.{and_parts}
use Rattle.std.proofs.lemmas.List.{map-append, append-nil}
use Rattle.mf_fraction.specs.Exact.{Number, Proper, fits, quotient_of, whole}
use Rattle.mf_fraction.proofs.Algebra.{quotient_of-proper}
use Rattle.mf_model.specs.declared.task.Op.{Op}
use Rattle.mf_model.specs.declared.task.Op.TheVariants.{Assign, Increase, Decrease, ScaleUp, ScaleDown}
use Rattle.mf_search.proofs.Members.{in_first, in_later}
use Rattle.mf_task.specs.declared.form.Form.{Form}
use Rattle.mf_task.specs.declared.form.Part.{Part}
use Rattle.mf_task.specs.declared.ground.GroundChange.{GroundChange}
use Rattle.mf_task.specs.declared.ground.GroundChange.TheVariants as change
use Rattle.mf_task.specs.declared.task.Task.{Task}
use Rattle.mf_task.specs.GroundMeaning.{form_at, optional_form_at, sign}
use Rattle.mf_task.specs.Layers.{Bound, Finite, Endless, Counting, FiringEffect, Layer, Range, Want, Above, AtLeast, constant_alone, constant_of, counting, counting_of, counting_with, extreme, factor_of, form_is_met, form_range, has_range, high_by, higher, inverse, listed, low_ends, lower, may_count, next_range, optional_form_range, range_from, range_meets, with_high, with_low}
use Rattle.mf_task.specs.LimitClosure.{is_zero}
use Rattle.mf_task.specs.RelaxedPlan.{CountedEffect, Relaxation, Serving, assigned, best_end, by_effect, counted_effect, counted_effects, has_term, is_assign, is_counted_part, is_settled, replaced_by, take_effect, take_term, want_for, with_assign, with_effect, without_term}
use Rattle.mf_task.specs.NumberedTasks.{HasProperForms, IsProperForm}
use Rattle.mf_limit.proofs.Fractions.{toward}
use Rattle.mf_meaning.proofs.LiveInstances.{contains_filter}
use Rattle.mf_values.specs.Fitting.{HasFittingConstants}
use Rattle.mf_values.proofs.Ends.{IsKept, end_of}
use Rattle.mf_values.proofs.Folds.{all_append, all_contains, fold_quiet, fold_taken}
use Rattle.mf_values.proofs.Kept.{IsKeptLayer, IsKeptRange, form-range-kept}
use Rattle.mf_values.proofs.Quiet.{HasProperFactor, HasTaken, IsKeptCounting, IsQuiet, EffectStep, IsPassed, Step, change-step, effect-step, end-stays, next-is, next_of, taken-effect, taken-ended, taken-replaced, value-step, unchanged}

-- Steps of serving

not_cons : {X : Type 0} (x : X) (xs : List X) → x ∷ xs ≢ []
not_cons x xs e = cc

pub take-stays : (layer : Layer) (want : Want) (p : Part) (serving : Serving) (c : CountedEffect) → HasTaken serving → HasTaken (take_effect layer want p serving c)
take-stays layer want p serving c t = by (is_settled layer want serving p.term) (unchanged layer p serving c)
  where
    by : (b : Bool) → (by_effect layer p serving c ≡ serving) ⊎ HasTaken (by_effect layer p serving c) → HasTaken (if b then serving else by_effect layer p serving c)
    by true step = t
    by false (inl e) = subst HasTaken (sym e) t
    by false (inr s) = s

pub term-stays : (r : Relaxation) (layer : Layer) (want : Want) (firing : List FiringEffect) (serving : Serving) (p : Part) → HasTaken serving → HasTaken (take_term r layer want firing serving p)
term-stays r layer want firing serving p t = fold_taken (take_effect layer want p) HasTaken (take-stays layer want p) serving (counted_effects r layer p.term firing) t

pub taken-assigned : (serving : Serving) (p : Part) (c : CountedEffect) → HasTaken (assigned serving p (Some c))
taken-assigned serving p c = by (is_zero p.coefficient)
  where
    by : (b : Bool) → HasTaken (if b then with_effect serving c.effect (record { constant = serving.form.constant; parts = without_term serving.form.parts p.term }) else replaced_by serving c.effect p (best_end p.coefficient c.counted.range))
    by true = taken-effect serving c.effect (record { constant = serving.form.constant; parts = without_term serving.form.parts p.term })
    by false = taken-replaced serving c.effect p (best_end p.coefficient c.counted.range)

assigned-stays : (serving : Serving) (p : Part) (found : Option CountedEffect) → HasTaken serving → HasTaken (assigned serving p found)
assigned-stays serving p None t = record { some = t.some }
assigned-stays serving p (Some c) t = taken-assigned serving p c

pub assign-stays : (r : Relaxation) (layer : Layer) (firing : List FiringEffect) (serving : Serving) (p : Part) → HasTaken serving → HasTaken (with_assign r layer firing serving p)
assign-stays r layer firing serving p t = by serving.ended
  where
    by : (b : Bool) → HasTaken (if b then serving else assigned serving p (find (λ c. is_assign c.counted.op) (counted_effects r layer p.term firing)))
    by true = t
    by false = assigned-stays serving p (find (λ c. is_assign c.counted.op) (counted_effects r layer p.term firing)) t

pub take-or : (layer : Layer) (want : Want) (p : Part) (serving : Serving) (c : CountedEffect) → (take_effect layer want p serving c ≡ serving) ⊎ HasTaken (take_effect layer want p serving c)
take-or layer want p serving c = by (is_settled layer want serving p.term)
  where
    by : (b : Bool) → ((if b then serving else by_effect layer p serving c) ≡ serving) ⊎ HasTaken (if b then serving else by_effect layer p serving c)
    by true = inl refl
    by false = unchanged layer p serving c

pub term-or : (r : Relaxation) (layer : Layer) (want : Want) (firing : List FiringEffect) (serving : Serving) (p : Part) → (take_term r layer want firing serving p ≡ serving) ⊎ HasTaken (take_term r layer want firing serving p)
term-or r layer want firing serving p = by (fold_quiet (take_effect layer want p) serving HasTaken (take-stays layer want p) (take-or layer want p serving) (counted_effects r layer p.term firing))
  where
    by : ((take_term r layer want firing serving p ≡ serving) × AllByRecursion (λ c. take_effect layer want p serving c ≡ serving) (counted_effects r layer p.term firing)) ⊎ HasTaken (take_term r layer want firing serving p) → (take_term r layer want firing serving p ≡ serving) ⊎ HasTaken (take_term r layer want firing serving p)
    by (inl q) = inl q.0
    by (inr t) = inr t

-- The first serving of a form

abbrev pub first_serving : Form → Serving
first_serving form = record { form = form; selected = []; ended = false }

pub not-first : (form : Form) (serving : Serving) → serving ≡ first_serving form → HasTaken serving → ⊥
not-first form serving e t = t.some (ap (λ (s : Serving). s.selected) e)

-- What counts is kept

constant-proper : (form : Form) → IsProperForm form → (f : Number) → constant_of (Some form) ≡ Some f → Proper f
constant-proper form proper f e = by form.parts e
  where
    by : (ps : List Part) → constant_alone form.constant ps ≡ Some f → Proper f
    by [] h = let same : form.constant ≡ f = cc in subst Proper same proper.constant
    by (p ∷ ps) h = absurd cc

inverse-proper : (o : Option Number) (f : Number) → inverse o ≡ Some f → Proper f
inverse-proper None f e = absurd cc
inverse-proper (Some a) f e = quotient_of-proper (whole (pos 1)) a f (omega arith) e

optional-range-kept : (task : Task) (layer : Layer) (value : Option ℕ) (range : Range) → HasProperForms task → HasFittingConstants task → IsKeptLayer layer → optional_form_range layer (optional_form_at task value) ≡ Some range → IsKeptRange range
optional-range-kept task layer None range proper fitting kept e = absurd cc
optional-range-kept task layer (Some n) range proper fitting kept e = form-range-kept layer (form_at task n) range kept (proper.forms n) (fitting.constants n) e

factor-kept : (task : Task) (op : Op) (value : Option ℕ) → HasProperForms task → HasProperFactor (factor_of op (optional_form_at task value))
factor-kept task Assign value proper = record { proper = λ f e. cc }
factor-kept task Increase value proper = record { proper = λ f e. cc }
factor-kept task Decrease value proper = record { proper = λ f e. cc }
factor-kept task ScaleUp None proper = record { proper = λ f e. cc }
factor-kept task ScaleUp (Some n) proper = record { proper = λ f e. constant-proper (form_at task n) (proper.forms n) f e }
factor-kept task ScaleDown None proper = record { proper = λ f e. cc }
factor-kept task ScaleDown (Some n) proper = record { proper = λ f e. inverse-proper (constant_of (Some (form_at task n))) f e }

pub counting-kept : (task : Task) (layer : Layer) (term : ℕ) (made : GroundChange) (counted : Counting) → HasProperForms task → HasFittingConstants task → IsKeptLayer layer → counting_of task layer term made ≡ Some counted → IsKeptCounting counted
counting-kept task layer term (change.Add atom) counted proper fitting kept e = absurd cc
counting-kept task layer term (change.Delete atom) counted proper fitting kept e = absurd cc
counting-kept task layer term (change.Cost value) counted proper fitting kept e = absurd cc
counting-kept task layer term change.Nothing counted proper fitting kept e = absurd cc
counting-kept task layer term (change.Number op changed value) counted proper fitting kept e = by (nat_eq term changed) (optional_form_range layer (optional_form_at task value)) refl e
  where
    with-range : (range : Range) (b : Bool) → optional_form_range layer (optional_form_at task value) ≡ Some range → (if b then Some (record { op = op; range = range; factor = factor_of op (optional_form_at task value) }) else None) ≡ Some counted → IsKeptCounting counted
    with-range range true is h =
        let same : record { op = op; range = range; factor = factor_of op (optional_form_at task value) } ≡ counted = cc in
        subst IsKeptCounting same (record { range = optional-range-kept task layer value range proper fitting kept is; factor = factor-kept task op value proper })
    with-range range false is h = absurd cc

    by : (b : Bool) (o : Option Range) → optional_form_range layer (optional_form_at task value) ≡ o → (if b then counting_with op (has_range layer term) (factor_of op (optional_form_at task value)) o else None) ≡ Some counted → IsKeptCounting counted
    by false o is h = absurd cc
    by true None is h = absurd cc
    by true (Some range) is h = with-range range (may_count op (has_range layer term) (factor_of op (optional_form_at task value))) is h
