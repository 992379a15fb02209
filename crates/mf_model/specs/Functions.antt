-- Constant functions, static predicates and cost functions of a task.
use Rattle.std.specs.Prelude.{ℕ, Bool, true, false, ◌&&◌, ◌||◌, not, nat_eq, List, [], ◌∷◌, ◌++◌, map, length, Option, Some, None, slice_get, is_some}
use Rattle.std.specs.List.{list_all, list_any, slice_index_or}
use Rattle.mf_model.specs.declared.task.Term.{Term}
use Rattle.mf_model.specs.declared.task.Term.TheVariants.{Variable, Object as ObjectTerm}
use Rattle.mf_model.specs.declared.task.Object.{Object}
use Rattle.mf_model.specs.declared.task.Symbol.{Symbol}
use Rattle.mf_model.specs.declared.task.Expr.{Expr}
use Rattle.mf_model.specs.declared.task.Effect.{Effect, fold-Effect}
use Rattle.mf_model.specs.declared.task.Effect.TheOpen.{Effect-F}
use Rattle.mf_model.specs.declared.task.TypedTask.{TypedTask}
use Rattle.mf_model.specs.Application.{is_sum}
use Rattle.mf_model.specs.Expressions.{every_side, every_change, reads}
use Rattle.mf_model.specs.Objects.{ancestors, bindings, kinds_of, meets, parents_of}
use Rattle.mf_model.specs.States.{start_of, value_at}

-- Constant functions and static predicates

abbrev pub changes_step : ℕ → Effect-F Bool → Bool
changes_step function (Effect-F.Add predicate terms) = false
changes_step function (Effect-F.Delete predicate terms) = false
changes_step function (Effect-F.Change op changed terms value) = nat_eq function changed
changes_step function (Effect-F.Group parts) = list_any (λ part. part) parts
changes_step function (Effect-F.Each variables part) = part
changes_step function (Effect-F.When condition part) = part

-- some effect on the function occurs in this effect
abbrev pub changes : ℕ → Effect → Bool
changes function = fold-Effect Bool (changes_step function)

-- no action has an effect on it
abbrev pub is_constant : TypedTask → ℕ → Bool
is_constant task function = not (list_any (λ action. changes function action.effect) task.actions)

abbrev pub touches_step : ℕ → Effect-F Bool → Bool
touches_step predicate (Effect-F.Add touched terms) = nat_eq predicate touched
touches_step predicate (Effect-F.Delete touched terms) = nat_eq predicate touched
touches_step predicate (Effect-F.Change op function terms value) = false
touches_step predicate (Effect-F.Group parts) = list_any (λ part. part) parts
touches_step predicate (Effect-F.Each variables part) = part
touches_step predicate (Effect-F.When condition part) = part

-- some atom of the predicate is added or deleted in this effect
abbrev pub touches : ℕ → Effect → Bool
touches predicate = fold-Effect Bool (touches_step predicate)

-- no action adds or deletes it
abbrev pub is_static : TypedTask → ℕ → Bool
is_static task predicate = not (list_any (λ action. touches predicate action.effect) task.actions)

-- Cost functions

-- the expression does not read the function
abbrev pub avoids : ℕ → Expr → Bool
avoids function value = not (reads (nat_eq function) value)

-- the function occurs in no condition, no goal and no right side
abbrev pub is_never_read : TypedTask → ℕ → Bool
is_never_read task function =
    list_all (λ action. every_side (avoids function) action.condition
    && every_change (λ op changed value. avoids function value) (every_side (avoids function)) action.effect) task.actions
    && every_side (avoids function) task.goal

-- it has only `increase` and `decrease` effects
abbrev pub is_only_summed : TypedTask → ℕ → Bool
is_only_summed task function =
    list_all (λ action. every_change (λ op changed value. not (nat_eq function changed) || is_sum op) (λ condition. true) action.effect) task.actions

abbrev pub types_of_object : Option Object → List ℕ
types_of_object (Some object) = object.types
types_of_object None = []

-- the types of an argument, under variables of these types
abbrev pub argument_types : TypedTask → List (List ℕ) → Term → List ℕ
argument_types task scope (Variable place) = slice_index_or scope place []
argument_types task scope (ObjectTerm number) = types_of_object (slice_get task.objects number)

-- each of the types is one of the declared ones, or descends from one of them
abbrev pub lie_under : TypedTask → List ℕ → List ℕ → Bool
lie_under task declared types = list_all (λ t. meets declared (ancestors (parents_of task) (length task.types) t)) types

abbrev pub all_lie_under : TypedTask → List (List ℕ) → List (List ℕ) → Bool
all_lie_under task [] types = true
all_lie_under task (declared ∷ others) [] = true
all_lie_under task (declared ∷ others) (types ∷ rest) = lie_under task declared types && all_lie_under task others rest

abbrev pub declared_types : Option Symbol → List (List ℕ)
declared_types (Some symbol) = symbol.parameters
declared_types None = []

abbrev pub parameters_of_function : TypedTask → ℕ → List (List ℕ)
parameters_of_function task function = declared_types (slice_get task.functions function)

abbrev pub fitting_step : TypedTask → ℕ → Effect-F (List (List ℕ) → Bool) → List (List ℕ) → Bool
fitting_step task function (Effect-F.Add predicate terms) scope = true
fitting_step task function (Effect-F.Delete predicate terms) scope = true
fitting_step task function (Effect-F.Change op changed terms value) scope =
    not (nat_eq function changed) || all_lie_under task (parameters_of_function task function) (map (argument_types task scope) terms)
fitting_step task function (Effect-F.Group parts) scope = list_all (λ part. part scope) parts
fitting_step task function (Effect-F.Each variables part) scope = part (scope ++ variables)
fitting_step task function (Effect-F.When condition part) scope = part scope

-- in each effect on it, every argument's types lie under the declared types
abbrev pub is_fitting : TypedTask → ℕ → Bool
is_fitting task function =
    list_all (λ action. fold-Effect (List (List ℕ) → Bool) (fitting_step task function) action.effect action.parameters) task.actions

-- every ground term over objects of its declared types has a start value
abbrev pub is_started : TypedTask → ℕ → Bool
is_started task function =
    list_all (λ objects. is_some (value_at (start_of task).values function objects)) (bindings (kinds_of task) (parameters_of_function task function) [])

abbrev pub is_cost : TypedTask → ℕ → Bool
is_cost task function =
    is_never_read task function && is_only_summed task function && is_fitting task function && is_started task function
