-- Where a linear form is too wide: a defined form of some subexpression or comparison has a constant or a coefficient that
-- does not fit. The right sides of effects on cost functions are looked at too; a metric is not.
use Rattle.std.specs.Prelude.{ℕ, ◌+◌, pos, Bool, true, ◌&&◌, if◌then◌else◌, List, [], ◌∷◌, map, Option, Some, None, slice_get}
use Rattle.std.specs.List.{list_all}
use Rattle.mf_fraction.specs.Exact.{Number, whole, fits}
use Rattle.mf_model.specs.declared.task.Action.{Action}
use Rattle.mf_model.specs.declared.task.Expr.{Expr, fold-Expr}
use Rattle.mf_model.specs.declared.task.Expr.TheOpen.{Expr-F}
use Rattle.mf_model.specs.declared.task.Cond.{Cond, fold-Cond}
use Rattle.mf_model.specs.declared.task.Cond.TheOpen.{Cond-F}
use Rattle.mf_model.specs.declared.task.Effect.{Effect, fold-Effect}
use Rattle.mf_model.specs.declared.task.Effect.TheOpen.{Effect-F}
use Rattle.mf_model.specs.declared.task.TypedTask.{TypedTask}
use Rattle.mf_model.specs.declared.state.Instance.{Instance}
use Rattle.mf_model.specs.Objects.{bindings, kinds_of}
use Rattle.mf_model.specs.Views.{objects_of}
use Rattle.mf_task.specs.declared.form.Form.{Form}
use Rattle.mf_task.specs.declared.place.Place.{Place}
use Rattle.mf_task.specs.declared.place.Place.TheVariants.{Goal, Action as AtAction}
use Rattle.mf_task.specs.Grounding.{compared_form, functions_of, terms_of}
use Rattle.mf_task.specs.LinearForms.{Functions, constant_form, difference_forms, function_form, negative_forms, product_forms, quotient_forms, sum_forms}

abbrev pub form_fits : Form → Bool
form_fits a = fits a.constant && list_all (λ p. fits p.coefficient) a.parts

abbrev pub optional_form_fits : Option Form → Bool
optional_form_fits (Some a) = form_fits a
optional_form_fits None = true

-- a form, and whether it and those of all subexpressions fit
pub record Formed : Type 0 where
  pub form : Option Form
  pub fits : Bool

-- of an expression with these parts
abbrev pub formed : Option Form → Bool → Formed
formed form parts_fit = record { form = form; fits = parts_fit && optional_form_fits form }

abbrev pub both_formed : (Option Form → Option Form → Option Form) → Formed → Formed → Formed
both_formed join a b = formed (join a.form b.form) (a.fits && b.fits)

-- the parts taken from the left, two at a time: each front is a subexpression
abbrev pub combined_formed : (Option Form → Option Form → Option Form) → Formed → List Formed → Formed
combined_formed join a [] = a
combined_formed join a (b ∷ bs) = combined_formed join (both_formed join a b) bs

abbrev pub joined_formed : Number → (Option Form → Option Form → Option Form) → List Formed → Formed
joined_formed unit join [] = formed (Some (constant_form unit)) true
joined_formed unit join (a ∷ others) = combined_formed join a others

abbrev pub formed_step : Functions → Expr-F (List ℕ → Formed) → List ℕ → Formed
formed_step functions (Expr-F.Number number) b = formed (Some (constant_form number)) true
formed_step functions (Expr-F.Function function terms) b = formed (function_form functions function (objects_of b terms)) true
formed_step functions (Expr-F.Sum parts) b = joined_formed (whole (pos 0)) sum_forms (map (λ part. part b) parts)
formed_step functions (Expr-F.Difference left right) b = both_formed difference_forms (left b) (right b)
formed_step functions (Expr-F.Negative part) b = formed (negative_forms (part b).form) (part b).fits
formed_step functions (Expr-F.Product parts) b = joined_formed (whole (pos 1)) product_forms (map (λ part. part b) parts)
formed_step functions (Expr-F.Quotient left right) b = both_formed quotient_forms (left b) (right b)
formed_step functions Expr-F.TotalTime b = formed None true

abbrev pub formed_of : Functions → Expr → List ℕ → Formed
formed_of functions = fold-Expr (List ℕ → Formed) (formed_step functions)

abbrev pub expression_fits : Functions → Expr → List ℕ → Bool
expression_fits functions value b = (formed_of functions value b).fits

abbrev pub condition_fits_step : List (List ℕ) → Functions → Cond-F (List ℕ → Bool) → List ℕ → Bool
condition_fits_step objects functions (Cond-F.Atom predicate terms) b = true
condition_fits_step objects functions (Cond-F.Same left right) b = true
condition_fits_step objects functions (Cond-F.Compare relation left right) b =
    expression_fits functions left b && expression_fits functions right b && optional_form_fits (compared_form functions left right b)
condition_fits_step objects functions (Cond-F.Not part) b = part b
condition_fits_step objects functions (Cond-F.And parts) b = list_all (λ part. part b) parts
condition_fits_step objects functions (Cond-F.Or parts) b = list_all (λ part. part b) parts
condition_fits_step objects functions (Cond-F.Imply left right) b = left b && right b
condition_fits_step objects functions (Cond-F.All variables part) b = list_all part (bindings objects variables b)
condition_fits_step objects functions (Cond-F.Any variables part) b = list_all part (bindings objects variables b)

abbrev pub condition_fits : List (List ℕ) → Functions → Cond → List ℕ → Bool
condition_fits objects functions = fold-Cond (List ℕ → Bool) (condition_fits_step objects functions)

abbrev pub effect_fits_step : List (List ℕ) → Functions → Effect-F (List ℕ → Bool) → List ℕ → Bool
effect_fits_step objects functions (Effect-F.Add predicate terms) b = true
effect_fits_step objects functions (Effect-F.Delete predicate terms) b = true
effect_fits_step objects functions (Effect-F.Change op function terms value) b = expression_fits functions value b
effect_fits_step objects functions (Effect-F.Group parts) b = list_all (λ part. part b) parts
effect_fits_step objects functions (Effect-F.Each variables part) b = list_all part (bindings objects variables b)
effect_fits_step objects functions (Effect-F.When condition part) b = condition_fits objects functions condition b && part b

abbrev pub effect_fits : List (List ℕ) → Functions → Effect → List ℕ → Bool
effect_fits objects functions = fold-Effect (List ℕ → Bool) (effect_fits_step objects functions)

abbrev pub action_fits : List (List ℕ) → Functions → List ℕ → Option Action → Bool
action_fits objects functions arguments (Some action) =
    condition_fits objects functions action.condition arguments && effect_fits objects functions action.effect arguments
action_fits objects functions arguments None = true

abbrev pub instance_fits : TypedTask → Functions → Instance → Bool
instance_fits task functions instance = action_fits (kinds_of task) functions instance.objects (slice_get task.actions instance.action)

abbrev pub wide_instance_from : TypedTask → Functions → ℕ → List Instance → Option Place
wide_instance_from task functions n [] = None
wide_instance_from task functions n (instance ∷ instances) =
    if instance_fits task functions instance then wide_instance_from task functions (n + 1) instances else Some (AtAction n)

abbrev pub wide_form_by : TypedTask → List Instance → Functions → Option Place
wide_form_by task instances functions =
    if condition_fits (kinds_of task) functions task.goal [] then wide_instance_from task functions 0 instances else Some Goal

-- the first place of a form that does not fit, if there is one: the goal, then the least live instance
abbrev pub wide_form_place : TypedTask → List Instance → Option Place
wide_form_place task instances = wide_form_by task instances (functions_of task (terms_of task instances))
