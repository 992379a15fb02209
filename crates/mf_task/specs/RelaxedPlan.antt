-- The relaxed plan: what the goal needs, from its level down to layer 1, and the effects that serve each need one layer
-- before. Its length is the number of different pairs of a layer and an instance.
use Rattle.std.specs.Prelude.{ℕ, zero, suc, ◌+◌, Bool, true, false, ◌&&◌, ◌||◌, not, if◌then◌else◌, nat_eq, List, [], ◌∷◌, ◌++◌, map, filter, position, take, find, slice_get, Option, Some, None}
use Rattle.std.specs.Set.{distinct_count}
use Rattle.mf_model.specs.Application.{is_sum}
use Rattle.std.specs.List.{fold, flat_map, list_any}
use Rattle.mf_fraction.specs.Exact.{Number, fits, is_below, sum_of, product_of}
use Rattle.mf_model.specs.declared.task.Op.{Op}
use Rattle.mf_model.specs.declared.task.Op.TheVariants.{Assign, Increase, Decrease, ScaleUp, ScaleDown}
use Rattle.mf_task.specs.declared.form.Form.{Form}
use Rattle.mf_task.specs.declared.form.Part.{Part}
use Rattle.mf_task.specs.declared.ground.GroundCond.{GroundCond, fold-GroundCond}
use Rattle.mf_task.specs.declared.ground.GroundCond.TheOpen.{GroundCond-F}
use Rattle.mf_task.specs.declared.ground.GroundChange.{GroundChange}
use Rattle.mf_task.specs.declared.ground.GroundAction.{GroundAction}
use Rattle.mf_task.specs.declared.task.Task.{Task}
use Rattle.mf_task.specs.GroundMeaning.{adds_atom, deletes_atom, form_at, is_ground_applicable}
use Rattle.mf_task.specs.Layers.{Bound, Finite, Endless, Counting, FiringEffect, Layer, Range, Want, Below, AtMost, Zero, NotZero, AtLeast, Above, all_layers, counting_of, firing_at, form_is_met, form_range, goal_level, has_range, is_above_zero, layer_at, negative_bound, scaled_high, scaled_low, want_of, zero_number, any_level, and_level, or_level, level_step, listed}
use Rattle.mf_task.specs.LimitClosure.{is_zero}
use Rattle.mf_task.specs.LinearForms.{negative_form}
use Rattle.mf_task.specs.Rows.{Sight}

-- Needs

-- an atom that is to be true, or false; a form that is to be above 0 (strictly), or at least 0
pub data Need : Type 0 where
  AtomNeed : Bool → ℕ → Need
  FormNeed : Bool → Form → Need

pub record LayerNeed : Type 0 where
  pub layer : ℕ
  pub need : Need

-- what all rules read: the task, the state, and the layers 0 to 1,000 of it
pub record Relaxation : Type 0 where
  pub task : Task
  pub sight : Sight
  pub layers : List Layer

abbrev pub relaxation_of : Task → Sight → Relaxation
relaxation_of task sight = record { task = task; sight = sight; layers = all_layers task sight }

abbrev pub at_layer : Relaxation → ℕ → Layer
at_layer r k = layer_at r.sight r.layers k

-- the effects that fire at layer k, in instance and effect order
abbrev pub fired_at : Relaxation → ℕ → List FiringEffect
fired_at r k = firing_at r.task (take (k + 1) r.layers)

abbrev pub is_finite_below : Bound → Bool
is_finite_below (Finite a) = is_below a zero_number
is_finite_below Endless = false

-- the upper end of a form's range is below 0, or it has no range
abbrev pub is_high_below : Option Range → Bool
is_high_below None = true
is_high_below (Some range) = is_finite_below range.high

abbrev pub is_high_above : Option Range → Bool
is_high_above None = false
is_high_above (Some range) = is_above_zero range.high

-- how a comparison that this layer is the first to meet is served, by its bounds here and one layer before
abbrev pub form_need : (here before : Layer) → Want → Form → Need
form_need here before Above a = FormNeed true a
form_need here before AtLeast a = FormNeed false a
form_need here before Below a = FormNeed true (negative_form a)
form_need here before AtMost a = FormNeed false (negative_form a)
form_need here before Zero a = if is_high_below (form_range before a) then FormNeed false a else FormNeed false (negative_form a)
form_need here before NotZero a = if is_high_above (form_range here a) then FormNeed true a else FormNeed true (negative_form a)

-- To require a condition

pub record Requirement : Type 0 where
  pub level : Bool → Option ℕ
  pub needs : Bool → List LayerNeed

-- a leaf of level 0 asks nothing, one of level k is a need of layer k
abbrev pub atom_needs : ℕ → Bool → Option ℕ → List LayerNeed
atom_needs atom asked (Some (suc k)) = record { layer = suc k; need = AtomNeed asked atom } ∷ []
atom_needs atom asked (Some zero) = []
atom_needs atom asked None = []

abbrev pub form_needs : Relaxation → Want → Form → Option ℕ → List LayerNeed
form_needs r want a (Some (suc k)) = record { layer = suc k; need = form_need (at_layer r (suc k)) (at_layer r k) want a } ∷ []
form_needs r want a (Some zero) = []
form_needs r want a None = []

abbrev pub is_level : Option ℕ → Option ℕ → Bool
is_level (Some a) (Some b) = nat_eq a b
is_level (Some a) None = false
is_level None b = false

abbrev pub needs_of : Bool → Requirement → List LayerNeed
needs_of asked part = part.needs asked

abbrev pub needs_of_first : Bool → Option Requirement → List LayerNeed
needs_of_first asked (Some part) = part.needs asked
needs_of_first asked None = []

abbrev pub all_needs : Bool → List Requirement → List LayerNeed
all_needs asked parts = flat_map (needs_of asked) parts

-- the needs of the first part of least level
abbrev pub least_needs : Bool → List Requirement → List LayerNeed
least_needs asked parts = needs_of_first asked (find (λ part. is_level (part.level asked) (any_level (map (λ part. part.level asked) parts))) parts)

abbrev pub and_needs : List Requirement → Bool → List LayerNeed
and_needs parts true = all_needs true parts
and_needs parts false = least_needs false parts

abbrev pub or_needs : List Requirement → Bool → List LayerNeed
or_needs parts true = least_needs true parts
or_needs parts false = all_needs false parts

abbrev pub level_part : Requirement → Bool → Option ℕ
level_part part = part.level

abbrev pub require_step : Relaxation → GroundCond-F Requirement → Requirement
require_step r (GroundCond-F.Fact holds) = record { level = level_step r.task r.layers (GroundCond-F.Fact holds); needs = λ asked. [] }
require_step r GroundCond-F.Neither = record { level = level_step r.task r.layers GroundCond-F.Neither; needs = λ asked. [] }
require_step r (GroundCond-F.Atom atom) = record {
  level = level_step r.task r.layers (GroundCond-F.Atom atom);
  needs = λ asked. atom_needs atom asked (level_step r.task r.layers (GroundCond-F.Atom atom) asked);
}
require_step r (GroundCond-F.Compare relation form) = record {
  level = level_step r.task r.layers (GroundCond-F.Compare relation form);
  needs = λ asked. form_needs r (want_of asked relation) (form_at r.task form) (level_step r.task r.layers (GroundCond-F.Compare relation form) asked);
}
require_step r (GroundCond-F.Not part) = record { level = λ asked. part.level (not asked); needs = λ asked. part.needs (not asked) }
require_step r (GroundCond-F.And parts) = record { level = and_level (map level_part parts); needs = and_needs parts }
require_step r (GroundCond-F.Or parts) = record { level = or_level (map level_part parts); needs = or_needs parts }

-- the needs of a condition that has a level
abbrev pub required : Relaxation → GroundCond → List LayerNeed
required r condition = (fold-GroundCond Requirement (require_step r) condition).needs true

-- To serve a need by effects that fire one layer before

-- so far: what is left of the form, the effects selected, and whether serving ended without a rest
pub record Serving : Type 0 where
  pub form : Form
  pub selected : List FiringEffect
  pub ended : Bool

abbrev pub want_for : Bool → Want
want_for true = Above
want_for false = AtLeast

abbrev pub with_effect : Serving → FiringEffect → Form → Serving
with_effect serving effect form = record { form = form; selected = serving.selected ++ effect ∷ []; ended = false }

abbrev pub ended_by : Serving → FiringEffect → Serving
ended_by serving effect = record { form = serving.form; selected = serving.selected ++ effect ∷ []; ended = true }

abbrev pub without_term : List Part → ℕ → List Part
without_term parts term = filter (λ p. not (nat_eq term p.term)) parts

-- a number added to the constant of the form, with the parts that are left; serving ends where the constant does not fit
abbrev pub with_constant : Serving → FiringEffect → List Part → Number → Serving
with_constant serving effect parts a =
    if fits (sum_of serving.form.constant a)
    then with_effect serving effect (record { constant = sum_of serving.form.constant a; parts = parts })
    else ended_by serving effect

-- the end of a range that is best for a form in which the term has this coefficient
abbrev pub best_end : Number → Range → Bound
best_end coefficient range = if is_below coefficient zero_number then range.low else range.high

-- the term in the form is replaced by its coefficient times a bound
abbrev pub replaced_by : Serving → FiringEffect → Part → Bound → Serving
replaced_by serving effect p Endless = ended_by serving effect
replaced_by serving effect p (Finite v) =
    if fits (product_of p.coefficient v)
    then with_constant serving effect (without_term serving.form.parts p.term) (product_of p.coefficient v)
    else ended_by serving effect

-- 1. A term without bounds gets its value from the first firing assign to it

pub record CountedEffect : Type 0 where
  pub effect : FiringEffect
  pub counted : Counting

abbrev pub counted_effect : Relaxation → Layer → ℕ → FiringEffect → List CountedEffect
counted_effect r layer term effect = map (λ counted. record { effect = effect; counted = counted }) (listed (counting_of r.task layer term effect.change))

-- the firing effects on a term that count, in their order
abbrev pub counted_effects : Relaxation → Layer → ℕ → List FiringEffect → List CountedEffect
counted_effects r layer term firing = flat_map (counted_effect r layer term) firing

abbrev pub is_assign : Op → Bool
is_assign Assign = true
is_assign Increase = false
is_assign Decrease = false
is_assign ScaleUp = false
is_assign ScaleDown = false

abbrev pub assigned : Serving → Part → Option CountedEffect → Serving
assigned serving p None = record { form = serving.form; selected = serving.selected; ended = true }
assigned serving p (Some c) =
    if is_zero p.coefficient
    then with_effect serving c.effect (record { constant = serving.form.constant; parts = without_term serving.form.parts p.term })
    else replaced_by serving c.effect p (best_end p.coefficient c.counted.range)

abbrev pub with_assign : Relaxation → Layer → List FiringEffect → Serving → Part → Serving
with_assign r layer firing serving p =
    if serving.ended then serving else assigned serving p (find (λ c. is_assign c.counted.op) (counted_effects r layer p.term firing))

-- 2. The effects on each other term whose coefficient is not 0, until the form is met

-- the changes that an increase or a decrease can make, from the least to the greatest
abbrev pub change_range : Op → Range → Range
change_range Decrease range = record { low = negative_bound range.high; high = negative_bound range.low }
change_range Increase range = range
change_range Assign range = range
change_range ScaleUp range = range
change_range ScaleDown range = range

abbrev pub with_change_of : Serving → FiringEffect → Number → Bound → Serving
with_change_of serving effect coefficient Endless = ended_by serving effect
with_change_of serving effect coefficient (Finite b) =
    if fits (product_of coefficient b)
    then (if is_below zero_number (product_of coefficient b) then with_constant serving effect serving.form.parts (product_of coefficient b) else serving)
    else ended_by serving effect

-- the values that an assign or a scaling can give to a term with this range
abbrev pub scaled_range : Option Number → Option Range → Range
scaled_range (Some factor) (Some own) = record { low = scaled_low factor own; high = scaled_high factor own }
scaled_range (Some factor) None = record { low = Endless; high = Endless }
scaled_range None own = record { low = Endless; high = Endless }

abbrev pub value_range : Counting → Option Range → Range
value_range counted own = if is_assign counted.op then counted.range else scaled_range counted.factor own

-- the coefficient times a value is above the coefficient times the term's own best bound
abbrev pub is_better : Number → Number → Bound → Bool
is_better coefficient v (Finite b) = is_below (product_of coefficient b) (product_of coefficient v)
is_better coefficient v Endless = false

abbrev pub with_value_of : Serving → FiringEffect → Part → Bound → Bound → Serving
with_value_of serving effect p own Endless = ended_by serving effect
with_value_of serving effect p own (Finite v) =
    if fits (product_of p.coefficient v)
    then (if is_better p.coefficient v own then replaced_by serving effect p (Finite v) else serving)
    else ended_by serving effect

abbrev pub own_best : Number → Option Range → Bound
own_best coefficient (Some range) = best_end coefficient range
own_best coefficient None = Endless

abbrev pub by_effect : Layer → Part → Serving → CountedEffect → Serving
by_effect layer p serving c =
    if is_sum c.counted.op
    then with_change_of serving c.effect p.coefficient (best_end p.coefficient (change_range c.counted.op c.counted.range))
    else with_value_of serving c.effect p (own_best p.coefficient (layer.range p.term)) (best_end p.coefficient (value_range c.counted (layer.range p.term)))

abbrev pub has_term : Form → ℕ → Bool
has_term form term = list_any (λ p. nat_eq term p.term) form.parts

-- no effect is taken any more: serving ended, the form is met, or the term was replaced
abbrev pub is_settled : Layer → Want → Serving → ℕ → Bool
is_settled layer want serving term = serving.ended || form_is_met layer want serving.form || not (has_term serving.form term)

abbrev pub take_effect : Layer → Want → Part → Serving → CountedEffect → Serving
take_effect layer want p serving c = if is_settled layer want serving p.term then serving else by_effect layer p serving c

abbrev pub take_term : Relaxation → Layer → Want → List FiringEffect → Serving → Part → Serving
take_term r layer want firing serving p = fold (take_effect layer want p) serving (counted_effects r layer p.term firing)

abbrev pub is_counted_part : Layer → Part → Bool
is_counted_part layer p = has_range layer p.term && not (is_zero p.coefficient)

abbrev pub served_form : Relaxation → ℕ → Want → Form → Serving
served_form r k want form =
    fold (take_term r (at_layer r k) want (fired_at r k))
    (fold (with_assign r (at_layer r k) (fired_at r k)) (record { form = form; selected = []; ended = false }) (filter (λ p. not (has_range (at_layer r k) p.term)) form.parts))
    (filter (is_counted_part (at_layer r k)) form.parts)

-- 3. Where a number that is needed is endless or does not fit, serving ended without a rest

-- 4. The rest is a need of the first layer up to k that meets it; at layer 0, or where none does, it asks nothing
abbrev pub rest_at : Bool → Form → Option ℕ → List LayerNeed
rest_at strict form (Some (suc k)) = record { layer = suc k; need = FormNeed strict form } ∷ []
rest_at strict form (Some zero) = []
rest_at strict form None = []

abbrev pub rest_needs : Relaxation → ℕ → Bool → Serving → List LayerNeed
rest_needs r k strict serving =
    if serving.ended then []
    else rest_at strict serving.form (position (λ layer. form_is_met layer (want_for strict) serving.form) (take (k + 1) r.layers))

pub record Service : Type 0 where
  pub selected : List FiringEffect
  pub rests : List LayerNeed

abbrev pub serves_atom : Bool → ℕ → GroundChange → Bool
serves_atom true atom made = adds_atom atom made
serves_atom false atom made = deletes_atom atom made

abbrev pub form_service : Relaxation → ℕ → Bool → Serving → Service
form_service r k strict serving = record { selected = serving.selected; rests = rest_needs r k strict serving }

-- a need of layer k + 1 served by effects that fire at layer k: an atom by the first effect that adds or deletes it
abbrev pub served : Relaxation → ℕ → Need → Service
served r k (AtomNeed asked atom) = record { selected = listed (find (λ effect. serves_atom asked atom effect.change) (fired_at r k)); rests = [] }
served r k (FormNeed strict form) = form_service r k strict (served_form r k (want_for strict) form)

-- The relaxed plan

-- a layer and the number of an instance
pub record Step : Type 0 where
  pub layer : ℕ
  pub action : ℕ

pub record Relaxed : Type 0 where
  pub steps : List Step
  pub needs : List LayerNeed

abbrev pub condition_of_action : List GroundAction → ℕ → List GroundCond
condition_of_action actions n = map (λ action. action.condition) (listed (slice_get actions n))

-- selecting an effect requires its instance's precondition and its condition
abbrev pub needs_of_effect : Relaxation → FiringEffect → List LayerNeed
needs_of_effect r effect = flat_map (required r) (condition_of_action r.task.actions effect.action ++ effect.condition ∷ [])

abbrev pub at_this_layer : ℕ → List LayerNeed → List LayerNeed
at_this_layer k needs = filter (λ n. nat_eq k n.layer) needs

abbrev pub services : Relaxation → ℕ → List LayerNeed → List Service
services r k needs = map (λ n. served r k n.need) (at_this_layer (k + 1) needs)

abbrev pub selected_in : List Service → List FiringEffect
selected_in served_here = flat_map (λ s. s.selected) served_here

abbrev pub needs_after : Relaxation → List LayerNeed → List Service → List LayerNeed
needs_after r needs served_here = needs ++ (flat_map (needs_of_effect r) (selected_in served_here) ++ flat_map (λ s. s.rests) served_here)

-- each need is served, from layer k down to layer 1
abbrev pub relaxed_from : Relaxation → ℕ → List LayerNeed → List Step → Relaxed
relaxed_from r zero needs steps = record { steps = steps; needs = needs }
relaxed_from r (suc k) needs steps =
    relaxed_from r k (needs_after r needs (services r k needs)) (steps ++ map (λ effect. record { layer = k; action = effect.action }) (selected_in (services r k needs)))

abbrev pub relaxed_at : Relaxation → Option ℕ → Relaxed
relaxed_at r (Some level) = relaxed_from r level (flat_map (required r) r.task.goal) []
relaxed_at r None = record { steps = []; needs = [] }

abbrev pub relaxed_plan : Task → Sight → Relaxed
relaxed_plan task sight = relaxed_at (relaxation_of task sight) (goal_level task sight)

abbrev pub same_step : Step → Step → Bool
same_step a b = nat_eq a.layer b.layer && nat_eq a.action b.action

-- the number of different steps
abbrev pub plan_length : Relaxed → ℕ
plan_length relaxed = distinct_count same_step relaxed.steps

-- Helpful instances

-- in the sense of serving, with the bounds of layer 0 and exact numbers
abbrev pub gains_endlessly : Number → Bound → Bool
gains_endlessly coefficient Endless = true
gains_endlessly coefficient (Finite b) = is_below zero_number (product_of coefficient b)

abbrev pub betters : Number → Bound → Bound → Bool
betters coefficient own Endless = true
betters coefficient own (Finite v) = is_better coefficient v own

abbrev pub counted_fits : Layer → Part → Counting → Bool
counted_fits layer p counted =
    if is_sum counted.op
    then gains_endlessly p.coefficient (best_end p.coefficient (change_range counted.op counted.range))
    else betters p.coefficient (own_best p.coefficient (layer.range p.term)) (best_end p.coefficient (value_range counted (layer.range p.term)))

-- an assign to a term without bounds, or an effect that would be selected for a term with them
abbrev pub part_fits : Layer → Part → Counting → Bool
part_fits layer p counted =
    if has_range layer p.term then not (is_zero p.coefficient) && counted_fits layer p counted else is_assign counted.op

abbrev pub effect_fits_part : Relaxation → Layer → FiringEffect → Part → Bool
effect_fits_part r layer effect p = list_any (part_fits layer p) (listed (counting_of r.task layer p.term effect.change))

-- an effect that fires at layer 0 fits a need of layer 1
abbrev pub effect_fits : Relaxation → FiringEffect → Need → Bool
effect_fits r effect (AtomNeed asked atom) = serves_atom asked atom effect.change
effect_fits r effect (FormNeed strict form) = list_any (effect_fits_part r (at_layer r 0) effect) form.parts

abbrev pub is_helpful : Relaxation → List LayerNeed → ℕ → GroundAction → Bool
is_helpful r needs n action =
    is_ground_applicable r.task r.sight action
    && list_any (λ effect. nat_eq n effect.action && list_any (λ need. effect_fits r effect need.need) needs) (fired_at r 0)

abbrev pub helpful_from : Relaxation → List LayerNeed → ℕ → List GroundAction → List ℕ
helpful_from r needs n [] = []
helpful_from r needs n (action ∷ actions) = if is_helpful r needs n action then n ∷ helpful_from r needs (n + 1) actions else helpful_from r needs (n + 1) actions

-- the numbers of the applicable instances with an effect firing at layer 0 that fits a need of layer 1
abbrev pub helpful_instances : Task → Sight → List ℕ
helpful_instances task sight =
    helpful_from (relaxation_of task sight) (at_this_layer 1 (relaxed_plan task sight).needs) 0 task.actions
