-- What a comparison needs that one layer is the first to meet.
use Rattle.std.proofs.Common.{◌≡◌, ℕ, zero, suc, ◌+◌, ◌≤◌, Bool, true, false, ◌&&◌, ◌||◌, not, if◌then◌else◌, List, [], ◌∷◌, Option, Some, None, take, refl, sym, ap, ap₂, subst, ◌∙◌, true≢false}
use Rattle.std.specs.List.{find}
use Rattle.std.proofs.lemmas.Bool.{and_parts}
use Rattle.mf_fraction.specs.Exact.{fits, is_below}
use Rattle.mf_task.specs.declared.form.Form.{Form}
use Rattle.mf_task.specs.LinearForms.{negative_form}
use Rattle.mf_task.specs.Layers.{Bound, Finite, Endless, FiringEffect, Layer, Range, Want, Below, AtMost, Zero, NotZero, AtLeast, Above, form_is_met, form_range, is_above_zero, is_below_zero, is_not_above_zero, is_not_below_zero, optional_range_meets, zero_number}
use Rattle.mf_task.specs.RelaxedPlan.{Need, AtomNeed, FormNeed, Relaxation, at_layer, fired_at, form_need, is_finite_below, is_high_above, is_high_below, serves_atom, want_for}
use Rattle.mf_task.specs.NumberedTasks.{HasProperForms, IsProperForm}
use Rattle.mf_values.specs.Fitting.{HasFittingConstants}
use Rattle.mf_values.proofs.Kept.{IsKeptLayer}
use Rattle.mf_values.proofs.Negatives.{met-negative-above, met-negative-least, negative-proper-form}
use Rattle.mf_values.proofs.Serving.{IsAfter, IsServable}

-- some effect serves the need
pub record HasServer (asked : Bool) (atom : ℕ) (firing : List FiringEffect) : Type 0 where
  pub server : FiringEffect
  pub found : find (λ (effect : FiringEffect). serves_atom asked atom effect.change) firing ≡ Some server

abbrev pub Serves : Relaxation → (before here : Layer) → List FiringEffect → Need → Type 0
Serves r before here firing (AtomNeed asked atom) = HasServer asked atom firing
Serves r before here firing (FormNeed strict form) = IsServable r before here firing strict form

-- two layers, one after the other
pub record AreLayers (r : Relaxation) (before here : Layer) (firing : List FiringEffect) : Type 0 where
  pub proper : HasProperForms r.task
  pub fitting : HasFittingConstants r.task
  pub kept : IsKeptLayer before
  pub kept_here : IsKeptLayer here
  pub after : IsAfter r.task before here firing

not-false : (b : Bool) → not b ≡ false → b ≡ true
not-false true e = refl
not-false false e = cc

or-false : (b c : Bool) → (b || c) ≡ false → (b ≡ false) × (c ≡ false)
or-false true c e = cc
or-false false c e = (refl, e)

-- an end below 0 is not at least 0, and one that is not below is
below-end : (b : Bound) → is_finite_below b ≡ true → is_not_below_zero b ≡ false
below-end (Finite a) e = ap not e
below-end Endless e = cc

not-below-end : (b : Bound) → is_finite_below b ≡ false → is_not_below_zero b ≡ true
not-below-end (Finite a) e = ap not e
not-below-end Endless e = refl

zero-unmet : (o : Option Range) → is_high_below o ≡ true → optional_range_meets AtLeast o ≡ false
zero-unmet None e = refl
zero-unmet (Some range) e = below-end range.high e

zero-met-least : (o : Option Range) → optional_range_meets Zero o ≡ true → optional_range_meets AtLeast o ≡ true
zero-met-least None e = cc
zero-met-least (Some range) e = (and_parts (is_not_above_zero range.low) (is_not_below_zero range.high) e).1

zero-met-most : (o : Option Range) → optional_range_meets Zero o ≡ true → optional_range_meets AtMost o ≡ true
zero-met-most None e = cc
zero-met-most (Some range) e = (and_parts (is_not_above_zero range.low) (is_not_below_zero range.high) e).0

zero-unmet-most : (o : Option Range) → is_high_below o ≡ false → optional_range_meets Zero o ≡ false → optional_range_meets AtMost o ≡ false
zero-unmet-most None h e = cc
zero-unmet-most (Some range) h e = by (is_not_above_zero range.low) (is_not_below_zero range.high) (not-below-end range.high h) e
  where
    by : (s t : Bool) → t ≡ true → (s && t) ≡ false → s ≡ false
    by true true g f = f
    by true false g f = absurd (true≢false (sym g))
    by false t g f = refl

other-unmet-above : (o : Option Range) → optional_range_meets NotZero o ≡ false → optional_range_meets Above o ≡ false
other-unmet-above None e = refl
other-unmet-above (Some range) e = (or-false (is_below_zero range.low) (is_above_zero range.high) e).1

other-unmet-below : (o : Option Range) → optional_range_meets NotZero o ≡ false → optional_range_meets Below o ≡ false
other-unmet-below None e = refl
other-unmet-below (Some range) e = (or-false (is_below_zero range.low) (is_above_zero range.high) e).0

other-met-above : (o : Option Range) → is_high_above o ≡ true → optional_range_meets Above o ≡ true
other-met-above None e = cc
other-met-above (Some range) e = e

other-met-below : (o : Option Range) → is_high_above o ≡ false → optional_range_meets NotZero o ≡ true → optional_range_meets Below o ≡ true
other-met-below None h e = cc
other-met-below (Some range) h e = by (is_below_zero range.low) (is_above_zero range.high) h e
  where
    by : (s t : Bool) → t ≡ false → (s || t) ≡ true → s ≡ true
    by true t g f = refl
    by false true g f = absurd (true≢false g)
    by false false g f = f

above-need : (r : Relaxation) (before here : Layer) (firing : List FiringEffect) (strict : Bool) (form : Form) → AreLayers r before here firing → IsProperForm form → form_is_met before (want_for strict) form ≡ false → form_is_met here (want_for strict) form ≡ true → Serves r before here firing (FormNeed strict form)
above-need r before here firing strict form layers proper unmet met = record { proper = layers.proper; fitting = layers.fitting; kept = layers.kept; after = layers.after; form_proper = proper; unmet = unmet; met = met }

below-need : (r : Relaxation) (before here : Layer) (firing : List FiringEffect) (form : Form) → AreLayers r before here firing → IsProperForm form → fits form.constant ≡ true → form_is_met before Below form ≡ false → form_is_met here Below form ≡ true → Serves r before here firing (FormNeed true (negative_form form))
below-need r before here firing form layers proper f unmet met =
    above-need r before here firing true (negative_form form) layers (negative-proper-form form proper) (met-negative-above before form layers.kept proper f ∙ unmet) (met-negative-above here form layers.kept_here proper f ∙ met)

most-need : (r : Relaxation) (before here : Layer) (firing : List FiringEffect) (form : Form) → AreLayers r before here firing → IsProperForm form → fits form.constant ≡ true → form_is_met before AtMost form ≡ false → form_is_met here AtMost form ≡ true → Serves r before here firing (FormNeed false (negative_form form))
most-need r before here firing form layers proper f unmet met =
    above-need r before here firing false (negative_form form) layers (negative-proper-form form proper) (met-negative-least before form layers.kept proper f ∙ unmet) (met-negative-least here form layers.kept_here proper f ∙ met)

-- The need of a form that a layer is the first to meet is one that some effect serves.
pub form-need-serves : (r : Relaxation) (before here : Layer) (firing : List FiringEffect) (want : Want) (form : Form) → AreLayers r before here firing → IsProperForm form → fits form.constant ≡ true → form_is_met before want form ≡ false → form_is_met here want form ≡ true → Serves r before here firing (form_need here before want form)
form-need-serves r before here firing Above form layers proper f unmet met = above-need r before here firing true form layers proper unmet met
form-need-serves r before here firing AtLeast form layers proper f unmet met = above-need r before here firing false form layers proper unmet met
form-need-serves r before here firing Below form layers proper f unmet met = below-need r before here firing form layers proper f unmet met
form-need-serves r before here firing AtMost form layers proper f unmet met = most-need r before here firing form layers proper f unmet met
form-need-serves r before here firing Zero form layers proper f unmet met = by (is_high_below (form_range before form)) refl
  where
    by : (b : Bool) → is_high_below (form_range before form) ≡ b → Serves r before here firing (if b then FormNeed false form else FormNeed false (negative_form form))
    by true e = above-need r before here firing false form layers proper (zero-unmet (form_range before form) e) (zero-met-least (form_range here form) met)
    by false e = most-need r before here firing form layers proper f (zero-unmet-most (form_range before form) e unmet) (zero-met-most (form_range here form) met)
form-need-serves r before here firing NotZero form layers proper f unmet met = by (is_high_above (form_range here form)) refl
  where
    by : (b : Bool) → is_high_above (form_range here form) ≡ b → Serves r before here firing (if b then FormNeed true form else FormNeed true (negative_form form))
    by true e = above-need r before here firing true form layers proper (other-unmet-above (form_range before form) unmet) (other-met-above (form_range here form) e)
    by false e = below-need r before here firing form layers proper f (other-unmet-below (form_range before form) unmet) (other-met-below (form_range here form) e met)
