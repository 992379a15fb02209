-- The width of numbers: where the value of a form is too wide, narrow states, and actions that lead out of the width.
use Rattle.std.specs.Prelude.{ℕ, ◌+◌, Bool, true, false, ◌&&◌, ◌||◌, not, if◌then◌else◌, List, [], ◌∷◌, Option, Some, None, is_some}
use Rattle.std.specs.List.{list_all, list_any}
use Rattle.mf_fraction.specs.Exact.{Number, fits, product_of, sum_of}
use Rattle.mf_task.specs.declared.form.Form.{Form}
use Rattle.mf_task.specs.declared.form.Part.{Part}
use Rattle.mf_task.specs.declared.ground.GroundCond.{GroundCond, fold-GroundCond}
use Rattle.mf_task.specs.declared.ground.GroundCond.TheOpen.{GroundCond-F}
use Rattle.mf_task.specs.declared.ground.GroundChange.{GroundChange}
use Rattle.mf_task.specs.declared.ground.GroundChange.TheVariants as change
use Rattle.mf_task.specs.declared.ground.GroundAction.{GroundAction}
use Rattle.mf_task.specs.declared.place.Place.{Place}
use Rattle.mf_task.specs.declared.place.Place.TheVariants.{Goal, Action}
use Rattle.mf_task.specs.declared.task.Task.{Task}
use Rattle.mf_task.specs.GroundMeaning.{action_firing, form_at, is_ground_applicable, next_sight, value_after}
use Rattle.mf_task.specs.Rows.{Sight}

-- Forms

pub data FormValue : Type 0 where
  Undefined : FormValue
  Wide : FormValue
  Exact : Number → FormValue

-- what follows a number that fits
abbrev pub unless_wide : Number → (Number → FormValue) → FormValue
unless_wide a rest = if fits a then rest a else Wide

abbrev pub onward : Option Number → (Number → FormValue) → FormValue
onward (Some a) rest = rest a
onward None rest = Undefined

-- the products in term order, added to the number one by one: each product and each partial sum has to fit
abbrev pub added_up : (ℕ → Option Number) → Number → List Part → FormValue
added_up value a [] = Exact a
added_up value a (p ∷ ps) =
    onward (value p.term) (λ v. unless_wide (product_of p.coefficient v) (λ product. unless_wide (sum_of a product) (λ sum. added_up value sum ps)))

abbrev pub all_defined : (ℕ → Option Number) → List Part → Bool
all_defined value parts = list_all (λ p. is_some (value p.term)) parts

-- undefined where a term is; else wide where a product or a partial sum is
abbrev pub bounded_value : (ℕ → Option Number) → Form → FormValue
bounded_value value a = if all_defined value a.parts then added_up value a.constant a.parts else Undefined

abbrev pub is_wide_value : FormValue → Bool
is_wide_value Undefined = false
is_wide_value Wide = true
is_wide_value (Exact a) = false

abbrev pub is_wide_at : (ℕ → Option Number) → Form → Bool
is_wide_at value a = is_wide_value (bounded_value value a)

-- Narrow states

abbrev pub wide_step : Task → Sight → GroundCond-F Bool → Bool
wide_step task sight (GroundCond-F.Fact holds) = false
wide_step task sight GroundCond-F.Neither = false
wide_step task sight (GroundCond-F.Atom atom) = false
wide_step task sight (GroundCond-F.Compare relation form) = is_wide_at sight.value (form_at task form)
wide_step task sight (GroundCond-F.Not part) = part
wide_step task sight (GroundCond-F.And parts) = list_any (λ part. part) parts
wide_step task sight (GroundCond-F.Or parts) = list_any (λ part. part) parts

-- the form of some comparison of the condition is wide
abbrev pub is_wide_cond : Task → Sight → GroundCond → Bool
is_wide_cond task sight = fold-GroundCond Bool (wide_step task sight)

-- of the precondition, or of the condition of an effect
abbrev pub is_wide_action : Task → Sight → GroundAction → Bool
is_wide_action task sight action =
    is_wide_cond task sight action.condition || list_any (λ effect. is_wide_cond task sight effect.condition) action.effects

abbrev pub is_wide_goal : Task → Sight → Bool
is_wide_goal task sight = list_any (is_wide_cond task sight) task.goal

abbrev pub is_narrow : Task → Sight → Bool
is_narrow task sight = not (is_wide_goal task sight || list_any (is_wide_action task sight) task.actions)

abbrev pub place_from : Task → Sight → ℕ → List GroundAction → Option Place
place_from task sight n [] = None
place_from task sight n (action ∷ actions) = if is_wide_action task sight action then Some (Action n) else place_from task sight (n + 1) actions

-- where a state is wide: the goal, else the least live instance
abbrev pub wide_place : Task → Sight → Option Place
wide_place task sight = if is_wide_goal task sight then Some Goal else place_from task sight 0 task.actions

-- Actions that lead out of the width

abbrev pub is_wide_optional : Task → Sight → Option ℕ → Bool
is_wide_optional task sight (Some form) = is_wide_at sight.value (form_at task form)
is_wide_optional task sight None = false

abbrev pub has_wide_right_side : Task → Sight → GroundChange → Bool
has_wide_right_side task sight (change.Add atom) = false
has_wide_right_side task sight (change.Delete atom) = false
has_wide_right_side task sight (change.Number op term value) = is_wide_optional task sight value
has_wide_right_side task sight (change.Cost value) = false
has_wide_right_side task sight change.Nothing = false

abbrev pub fits_optional : Option Number → Bool
fits_optional (Some a) = fits a
fits_optional None = true

abbrev pub fits_after : Task → Sight → (ℕ → Option Number) → GroundChange → Bool
fits_after task sight current (change.Add atom) = true
fits_after task sight current (change.Delete atom) = true
fits_after task sight current (change.Number op term value) = fits_optional (value_after task sight term (current term) (change.Number op term value))
fits_after task sight current (change.Cost value) = true
fits_after task sight current change.Nothing = true

-- each partial new value fits: from the old value, with the changes in their order
abbrev pub all_fit : Task → Sight → (ℕ → Option Number) → List GroundChange → Bool
all_fit task sight current [] = true
all_fit task sight current (c ∷ cs) =
    fits_after task sight current c && all_fit task sight (λ term. value_after task sight term (current term) c) cs

-- asked of applicable actions: a firing right side is wide, a partial new value does not fit, or the next state is not narrow
abbrev pub leads_out : Task → Sight → GroundAction → Bool
leads_out task sight action =
    list_any (has_wide_right_side task sight) (action_firing task sight action)
    || not (all_fit task sight sight.value (action_firing task sight action))
    || not (is_narrow task (next_sight task sight (action_firing task sight action)))

abbrev pub way_out_from : Task → Sight → ℕ → List GroundAction → Option ℕ
way_out_from task sight n [] = None
way_out_from task sight n (action ∷ actions) =
    if is_ground_applicable task sight action && leads_out task sight action then Some n else way_out_from task sight (n + 1) actions

-- the least applicable live instance that leads out of the width
abbrev pub way_out : Task → Sight → Option ℕ
way_out task sight = way_out_from task sight 0 task.actions
