-- Layers of possible atoms and bounds of terms, and the levels of conditions in them. Each layer has all of the one before
-- it, the adds and deletes of the effects that fire there, and wider bounds. A sum or product that does not fit counts as
-- beyond every number in an upper bound and as below every number in a lower one.
use Rattle.std.specs.Prelude.{ℕ, zero, suc, ◌+◌, max, min, pos, Bool, true, false, ◌&&◌, ◌||◌, not, if◌then◌else◌, nat_eq, List, [], ◌∷◌, ◌++◌, map, filter, position, get_or, Option, Some, None, is_some}
use Rattle.std.specs.List.{fold, flat_map, list_all, list_any}
use Rattle.std.specs.declared.cmp.Ordering.{Ordering}
use Rattle.std.specs.declared.cmp.Ordering.TheVariants.{Less, Equal, Greater}
use Rattle.mf_fraction.specs.Exact.{Number, whole, fits, is_below, sum_of, difference_of, product_of, quotient_of, negative_of}
use Rattle.mf_model.specs.declared.task.Op.{Op}
use Rattle.mf_model.specs.declared.task.Op.TheVariants.{Assign, Increase, Decrease, ScaleUp, ScaleDown}
use Rattle.mf_model.specs.declared.task.Relation.{Relation}
use Rattle.mf_model.specs.declared.task.Relation.TheVariants as relation
use Rattle.mf_model.specs.Application.{is_sum}
use Rattle.mf_task.specs.declared.form.Form.{Form}
use Rattle.mf_task.specs.declared.form.Part.{Part}
use Rattle.mf_task.specs.declared.ground.GroundCond.{GroundCond, fold-GroundCond}
use Rattle.mf_task.specs.declared.ground.GroundCond.TheOpen.{GroundCond-F}
use Rattle.mf_task.specs.declared.ground.GroundChange.{GroundChange}
use Rattle.mf_task.specs.declared.ground.GroundChange.TheVariants as change
use Rattle.mf_task.specs.declared.ground.GroundEffect.{GroundEffect}
use Rattle.mf_task.specs.declared.ground.GroundAction.{GroundAction}
use Rattle.mf_task.specs.declared.task.Task.{Task}
use Rattle.mf_task.specs.GroundMeaning.{adds_atom, deletes_atom, form_at, optional_form_at, sign}
use Rattle.mf_task.specs.LimitClosure.{agrees_with, is_zero}
use Rattle.mf_task.specs.Rows.{Sight}

-- Bounds

-- a number, or none at this end: beyond every number above, below every number below
pub data Bound : Type 0 where
  Finite : Number → Bound
  Endless : Bound

pub record Range : Type 0 where
  pub low : Bound
  pub high : Bound

pub record Layer : Type 0 where
  pub possible : ℕ → Bool
  pub possibly_false : ℕ → Bool
  pub range : ℕ → Option Range

abbrev pub if_it_fits : Number → Bound
if_it_fits a = if fits a then Finite a else Endless

abbrev pub plus_bound : Bound → Bound → Bound
plus_bound (Finite a) (Finite b) = if_it_fits (sum_of a b)
plus_bound (Finite a) Endless = Endless
plus_bound Endless b = Endless

abbrev pub minus_bound : Bound → Bound → Bound
minus_bound (Finite a) (Finite b) = if_it_fits (difference_of a b)
minus_bound (Finite a) Endless = Endless
minus_bound Endless b = Endless

-- by a factor other than 0
abbrev pub times_bound : Number → Bound → Bound
times_bound factor (Finite a) = if_it_fits (product_of factor a)
times_bound factor Endless = Endless

abbrev pub zero_number : Number
zero_number = whole (pos 0)

-- the positive part of an upper bound, and that of a lower bound turned about
abbrev pub positive_part : Bound → Bound
positive_part (Finite a) = if is_below zero_number a then Finite a else Finite zero_number
positive_part Endless = Endless

abbrev pub negative_bound : Bound → Bound
negative_bound (Finite a) = Finite (negative_of a)
negative_bound Endless = Endless

abbrev pub higher : Bound → Bound → Bound
higher (Finite a) (Finite b) = if is_below a b then Finite b else Finite a
higher (Finite a) Endless = Endless
higher Endless b = Endless

abbrev pub lower : Bound → Bound → Bound
lower (Finite a) (Finite b) = if is_below b a then Finite b else Finite a
lower (Finite a) Endless = Endless
lower Endless b = Endless

-- the greatest (the least) of some bounds
abbrev pub extreme : (Bound → Bound → Bound) → List Bound → Option Bound
extreme pick [] = None
extreme pick (b ∷ bs) = Some (fold pick b bs)

-- The bounds of forms

abbrev pub high_of : Option Range → Bound
high_of (Some range) = range.high
high_of None = Endless

abbrev pub low_of : Option Range → Bound
low_of (Some range) = range.low
low_of None = Endless

-- the end that the upper bound of a form takes, by the sign of the coefficient; terms of coefficient 0 add nothing
abbrev pub high_by : Ordering → Option Range → Number → Bound → Bound
high_by Greater range coefficient a = plus_bound a (times_bound coefficient (high_of range))
high_by Less range coefficient a = plus_bound a (times_bound coefficient (low_of range))
high_by Equal range coefficient a = a

abbrev pub low_by : Ordering → Option Range → Number → Bound → Bound
low_by Greater range coefficient a = plus_bound a (times_bound coefficient (low_of range))
low_by Less range coefficient a = plus_bound a (times_bound coefficient (high_of range))
low_by Equal range coefficient a = a

abbrev pub with_high : Layer → Bound → Part → Bound
with_high layer a p = high_by (sign p.coefficient) (layer.range p.term) p.coefficient a

abbrev pub with_low : Layer → Bound → Part → Bound
with_low layer a p = low_by (sign p.coefficient) (layer.range p.term) p.coefficient a

abbrev pub has_range : Layer → ℕ → Bool
has_range layer term = is_some (layer.range term)

-- undefined where a term has no bounds, one of coefficient 0 too
abbrev pub form_range : Layer → Form → Option Range
form_range layer a =
    if list_all (λ p. has_range layer p.term) a.parts
    then Some (record { low = fold (with_low layer) (Finite a.constant) a.parts; high = fold (with_high layer) (Finite a.constant) a.parts })
    else None

abbrev pub optional_form_range : Layer → Option Form → Option Range
optional_form_range layer (Some a) = form_range layer a
optional_form_range layer None = None

-- Leaves

-- what is asked of a form: it is below 0, at most 0, 0, other than 0, at least 0, above 0
pub data Want : Type 0 where
  Below : Want
  AtMost : Want
  Zero : Want
  NotZero : Want
  AtLeast : Want
  Above : Want

-- a comparison, or its opposite where it is to fail
abbrev pub want_of : Bool → Relation → Want
want_of true relation.Less = Below
want_of true relation.AtMost = AtMost
want_of true relation.Equal = Zero
want_of true relation.AtLeast = AtLeast
want_of true relation.More = Above
want_of false relation.Less = AtLeast
want_of false relation.AtMost = Above
want_of false relation.Equal = NotZero
want_of false relation.AtLeast = Below
want_of false relation.More = AtMost

-- an upper bound is above 0, or at least 0
abbrev pub is_above_zero : Bound → Bool
is_above_zero (Finite a) = is_below zero_number a
is_above_zero Endless = true

abbrev pub is_not_below_zero : Bound → Bool
is_not_below_zero (Finite a) = not (is_below a zero_number)
is_not_below_zero Endless = true

-- a lower bound is below 0, or at most 0
abbrev pub is_below_zero : Bound → Bool
is_below_zero (Finite a) = is_below a zero_number
is_below_zero Endless = true

abbrev pub is_not_above_zero : Bound → Bool
is_not_above_zero (Finite a) = not (is_below zero_number a)
is_not_above_zero Endless = true

abbrev pub range_meets : Want → Range → Bool
range_meets Below range = is_below_zero range.low
range_meets AtMost range = is_not_above_zero range.low
range_meets Zero range = is_not_above_zero range.low && is_not_below_zero range.high
range_meets NotZero range = is_below_zero range.low || is_above_zero range.high
range_meets AtLeast range = is_not_below_zero range.high
range_meets Above range = is_above_zero range.high

abbrev pub optional_range_meets : Want → Option Range → Bool
optional_range_meets want (Some range) = range_meets want range
optional_range_meets want None = false

abbrev pub form_is_met : Layer → Want → Form → Bool
form_is_met layer want a = optional_range_meets want (form_range layer a)

abbrev pub atom_is_met : ℕ → Bool → Layer → Bool
atom_is_met atom true layer = layer.possible atom
atom_is_met atom false layer = layer.possibly_false atom

-- Levels

abbrev pub later : Option ℕ → Option ℕ → Option ℕ
later (Some a) (Some b) = Some (max a b)
later (Some a) None = None
later None b = None

abbrev pub earlier : Option ℕ → Option ℕ → Option ℕ
earlier (Some a) (Some b) = Some (min a b)
earlier (Some a) None = Some a
earlier None b = b

-- the greatest level of the parts, 0 for none; the least one, none for none
abbrev pub all_levels : List (Option ℕ) → Option ℕ
all_levels [] = Some 0
all_levels (l ∷ ls) = later l (all_levels ls)

abbrev pub any_level : List (Option ℕ) → Option ℕ
any_level [] = None
any_level (l ∷ ls) = earlier l (any_level ls)

abbrev pub fact_level : Bool → Option ℕ
fact_level true = Some 0
fact_level false = None

abbrev pub and_level : List (Bool → Option ℕ) → Bool → Option ℕ
and_level parts true = all_levels (map (λ part. part true) parts)
and_level parts false = any_level (map (λ part. part false) parts)

abbrev pub or_level : List (Bool → Option ℕ) → Bool → Option ℕ
or_level parts true = any_level (map (λ part. part true) parts)
or_level parts false = all_levels (map (λ part. part false) parts)

abbrev pub level_step : Task → List Layer → GroundCond-F (Bool → Option ℕ) → Bool → Option ℕ
level_step task layers (GroundCond-F.Fact holds) asked = fact_level (agrees_with asked holds)
level_step task layers GroundCond-F.Neither asked = None
level_step task layers (GroundCond-F.Atom atom) asked = position (atom_is_met atom asked) layers
level_step task layers (GroundCond-F.Compare r form) asked = position (λ layer. form_is_met layer (want_of asked r) (form_at task form)) layers
level_step task layers (GroundCond-F.Not part) asked = part (not asked)
level_step task layers (GroundCond-F.And parts) asked = and_level parts asked
level_step task layers (GroundCond-F.Or parts) asked = or_level parts asked

-- the level of a condition, or of its negation, among these layers: that of a leaf is the first layer that meets it
abbrev pub level_as : Task → List Layer → GroundCond → Bool → Option ℕ
level_as task layers = fold-GroundCond (Bool → Option ℕ) (level_step task layers)

abbrev pub level_of : Task → List Layer → GroundCond → Option ℕ
level_of task layers condition = level_as task layers condition true

-- What fires

-- a firing effect and the number of its live instance
pub record FiringEffect : Type 0 where
  pub action : ℕ
  pub condition : GroundCond
  pub change : GroundChange

abbrev pub effect_fires : Task → List Layer → GroundEffect → Bool
effect_fires task layers effect = is_some (level_of task layers effect.condition)

abbrev pub firing_effects : Task → List Layer → ℕ → GroundAction → List FiringEffect
firing_effects task layers n action =
    if is_some (level_of task layers action.condition)
    then map (λ effect. record { action = n; condition = effect.condition; change = effect.change }) (filter (effect_fires task layers) action.effects)
    else []

abbrev pub firing_from : Task → List Layer → ℕ → List GroundAction → List FiringEffect
firing_from task layers n [] = []
firing_from task layers n (action ∷ actions) = firing_effects task layers n action ++ firing_from task layers (n + 1) actions

-- the effects that fire at the last of these layers, in instance and effect order: their instance and their condition have levels there
abbrev pub firing_at : Task → List Layer → List FiringEffect
firing_at task layers = firing_from task layers 0 task.actions

-- Numeric changes of one term that count at a layer: the right side is defined there and, but for an assign, the term has
-- bounds there; a scaling by 0 as a divisor does not count

pub record Counting : Type 0 where
  pub op : Op
  pub range : Range  -- of the right side
  pub factor : Option Number  -- of a scaling, as a multiplication

abbrev pub constant_alone : Number → List Part → Option Number
constant_alone a [] = Some a
constant_alone a (p ∷ ps) = None

-- the value of a form that reads no changing term
abbrev pub constant_of : Option Form → Option Number
constant_of (Some a) = constant_alone a.constant a.parts
constant_of None = None

abbrev pub inverse : Option Number → Option Number
inverse (Some a) = quotient_of (whole (pos 1)) a
inverse None = None

abbrev pub factor_of : Op → Option Form → Option Number
factor_of ScaleUp value = constant_of value
factor_of ScaleDown value = inverse (constant_of value)
factor_of Assign value = None
factor_of Increase value = None
factor_of Decrease value = None

abbrev pub may_count : Op → (has_bounds : Bool) → Option Number → Bool
may_count Assign has_bounds factor = true
may_count Increase has_bounds factor = has_bounds
may_count Decrease has_bounds factor = has_bounds
may_count ScaleUp has_bounds factor = has_bounds && is_some factor
may_count ScaleDown has_bounds factor = has_bounds && is_some factor

abbrev pub counting_with : Op → Bool → Option Number → Option Range → Option Counting
counting_with op has_bounds factor (Some range) = if may_count op has_bounds factor then Some (record { op = op; range = range; factor = factor }) else None
counting_with op has_bounds factor None = None

-- a change as one that counts for the term, if it does
abbrev pub counting_of : Task → Layer → ℕ → GroundChange → Option Counting
counting_of task layer term (change.Add atom) = None
counting_of task layer term (change.Delete atom) = None
counting_of task layer term (change.Number op changed value) =
    if nat_eq term changed
    then counting_with op (has_range layer term) (factor_of op (optional_form_at task value)) (optional_form_range layer (optional_form_at task value))
    else None
counting_of task layer term (change.Cost value) = None
counting_of task layer term change.Nothing = None

abbrev pub listed : {A : Type 0} → Option A → List A
listed (Some a) = a ∷ []
listed None = []

abbrev pub counting : Task → Layer → ℕ → List FiringEffect → List Counting
counting task layer term firing = flat_map (λ effect. listed (counting_of task layer term effect.change)) firing

-- The next layer

abbrev pub rise_by : Op → Range → Bound
rise_by Increase range = positive_part range.high
rise_by Decrease range = positive_part (negative_bound range.low)
rise_by Assign range = Finite zero_number
rise_by ScaleUp range = Finite zero_number
rise_by ScaleDown range = Finite zero_number

abbrev pub rise_of : Counting → Bound
rise_of counted = rise_by counted.op counted.range

abbrev pub fall_by : Op → Range → Bound
fall_by Increase range = positive_part (negative_bound range.low)
fall_by Decrease range = positive_part range.high
fall_by Assign range = Finite zero_number
fall_by ScaleUp range = Finite zero_number
fall_by ScaleDown range = Finite zero_number

abbrev pub fall_of : Counting → Bound
fall_of counted = fall_by counted.op counted.range

abbrev pub is_step : Counting → Bool
is_step counted = is_sum counted.op

-- the sum of the rises, and of the falls, in their order
abbrev pub rises : List Counting → Bound
rises counted = fold (λ sum c. plus_bound sum (rise_of c)) (Finite zero_number) (filter is_step counted)

abbrev pub falls : List Counting → Bound
falls counted = fold (λ sum c. plus_bound sum (fall_of c)) (Finite zero_number) (filter is_step counted)

-- a bound times a factor; 0 times any bound is 0
abbrev pub scaled_bound : Number → Bound → Bound
scaled_bound factor b = if is_zero factor then Finite zero_number else times_bound factor b

-- the upper (lower) end of a term's range times a factor
abbrev pub scaled_high : Number → Range → Bound
scaled_high factor range = scaled_bound factor (if is_below factor zero_number then range.low else range.high)

abbrev pub scaled_low : Number → Range → Bound
scaled_low factor range = scaled_bound factor (if is_below factor zero_number then range.high else range.low)

-- the ends that assigns and scalings give to a term with this range, if it has one
abbrev pub scaled_end : (Number → Range → Bound) → Option Number → Option Range → List Bound
scaled_end end (Some factor) (Some range) = end factor range ∷ []
scaled_end end (Some factor) None = []
scaled_end end None range = []

abbrev pub high_ends_by : Op → Option Range → Counting → List Bound
high_ends_by Assign range counted = counted.range.high ∷ []
high_ends_by ScaleUp range counted = scaled_end scaled_high counted.factor range
high_ends_by ScaleDown range counted = scaled_end scaled_high counted.factor range
high_ends_by Increase range counted = []
high_ends_by Decrease range counted = []

abbrev pub high_ends : Option Range → Counting → List Bound
high_ends range counted = high_ends_by counted.op range counted

abbrev pub low_ends_by : Op → Option Range → Counting → List Bound
low_ends_by Assign range counted = counted.range.low ∷ []
low_ends_by ScaleUp range counted = scaled_end scaled_low counted.factor range
low_ends_by ScaleDown range counted = scaled_end scaled_low counted.factor range
low_ends_by Increase range counted = []
low_ends_by Decrease range counted = []

abbrev pub low_ends : Option Range → Counting → List Bound
low_ends range counted = low_ends_by counted.op range counted

abbrev pub moved_high : Option Range → List Counting → List Bound
moved_high (Some range) counted = plus_bound range.high (rises counted) ∷ []
moved_high None counted = []

abbrev pub moved_low : Option Range → List Counting → List Bound
moved_low (Some range) counted = minus_bound range.low (falls counted) ∷ []
moved_low None counted = []

abbrev pub range_from : Option Bound → Option Bound → Option Range
range_from (Some low) (Some high) = Some (record { low = low; high = high })
range_from (Some low) None = None
range_from None high = None

abbrev pub next_range : Option Range → List Counting → Option Range
next_range range counted =
    range_from (extreme lower (moved_low range counted ++ flat_map (low_ends range) counted)) (extreme higher (moved_high range counted ++ flat_map (high_ends range) counted))

abbrev pub next_layer_by : Task → Layer → List FiringEffect → Layer
next_layer_by task layer firing = record {
  possible = λ atom. layer.possible atom || list_any (λ effect. adds_atom atom effect.change) firing;
  possibly_false = λ atom. layer.possibly_false atom || list_any (λ effect. deletes_atom atom effect.change) firing;
  range = λ term. next_range (layer.range term) (counting task layer term firing);
}

abbrev pub point : Option Number → Option Range
point (Some a) = Some (record { low = Finite a; high = Finite a })
point None = None

abbrev pub first_layer : Sight → Layer
first_layer sight = record { possible = sight.bit; possibly_false = λ atom. not (sight.bit atom); range = λ term. point (sight.value term) }

abbrev pub layer_at : Sight → List Layer → ℕ → Layer
layer_at sight layers k = get_or layers k (first_layer sight)

-- the layers 0 to k
abbrev pub layers_to : Task → Sight → ℕ → List Layer
layers_to task sight zero = first_layer sight ∷ []
layers_to task sight (suc k) =
    layers_to task sight k ++ next_layer_by task (layer_at sight (layers_to task sight k) k) (firing_at task (layers_to task sight k)) ∷ []

-- layers run from 0 to 1,000
abbrev pub all_layers : Task → Sight → List Layer
all_layers task sight = layers_to task sight 1000

-- the level of the goal, if it has one
abbrev pub goal_level : Task → Sight → Option ℕ
goal_level task sight = all_levels (map (level_of task (all_layers task sight)) task.goal)
