-- Applying an instance: its firing effects, when it is applicable, and the next state
-- (PDDL 2.1, section 3 of Fox and Long). All effects read the old state.
use Rattle.std.specs.Prelude.{ℕ, ◌+◌, pos, Bool, true, false, ◌&&◌, ◌||◌, not, if◌then◌else◌, nat_eq, nat_lt, List, [], ◌∷◌, ◌++◌, map, filter, length, Option, Some, None, slice_get, is_some}
use Rattle.std.specs.List.{fold, flat_map, list_all}
use Rattle.mf_fraction.specs.Exact.{Number, whole, is_same}
use Rattle.mf_model.specs.declared.task.Op.{Op}
use Rattle.mf_model.specs.declared.task.Op.TheVariants.{Assign, Increase, Decrease, ScaleUp, ScaleDown}
use Rattle.mf_model.specs.declared.task.Atom.{Atom}
use Rattle.mf_model.specs.declared.task.Valued.{Valued}
use Rattle.mf_model.specs.declared.task.Action.{Action}
use Rattle.mf_model.specs.declared.task.Effect.{Effect, fold-Effect}
use Rattle.mf_model.specs.declared.task.Effect.TheOpen.{Effect-F}
use Rattle.mf_model.specs.declared.task.TypedTask.{TypedTask}
use Rattle.mf_model.specs.declared.state.Instance.{Instance}
use Rattle.mf_model.specs.declared.state.PlainState.{PlainState}
use Rattle.mf_model.specs.Meaning.{holds_in, value_of, plus, minus, times, over}
use Rattle.mf_model.specs.Objects.{bindings, kinds_of}
use Rattle.mf_model.specs.States.{numbers_before, with_atom, without_atom, with_value, value_at, same_numbers, look_of}
use Rattle.mf_model.specs.Views.{Look, objects_of}

-- one change that a firing effect makes; the value of a numeric one is its right side in the old state
pub data Change : Type 0 where
  Added : ℕ → List ℕ → Change
  Deleted : ℕ → List ℕ → Change
  Changed : Op → ℕ → List ℕ → Option Number → Change

abbrev pub firing_step : List (List ℕ) → Look → Effect-F (List ℕ → List Change) → List ℕ → List Change
firing_step objects look (Effect-F.Add predicate terms) b = Added predicate (objects_of b terms) ∷ []
firing_step objects look (Effect-F.Delete predicate terms) b = Deleted predicate (objects_of b terms) ∷ []
firing_step objects look (Effect-F.Change op function terms value) b = Changed op function (objects_of b terms) (value_of look value b) ∷ []
firing_step objects look (Effect-F.Group parts) b = flat_map (λ part. part b) parts
firing_step objects look (Effect-F.Each variables part) b = flat_map part (bindings objects variables b)
firing_step objects look (Effect-F.When condition part) b = if holds_in objects look condition b then part b else []

-- the changes of the effects that fire, in the order of the text, a `forall` binding by binding
abbrev pub firing_of : List (List ℕ) → Look → Effect → List ℕ → List Change
firing_of objects look = fold-Effect (List ℕ → List Change) (firing_step objects look)

abbrev pub reads_old : Op → Bool
reads_old Assign = false
reads_old Increase = true
reads_old Decrease = true
reads_old ScaleUp = true
reads_old ScaleDown = true

-- a division by 0 counts as reading an undefined value
abbrev pub divides_by_zero : Op → Option Number → Bool
divides_by_zero ScaleDown (Some value) = is_same value (whole (pos 0))
divides_by_zero ScaleDown None = false
divides_by_zero Assign value = false
divides_by_zero Increase value = false
divides_by_zero Decrease value = false
divides_by_zero ScaleUp value = false

-- it reads only defined values
abbrev pub is_defined : Look → Change → Bool
is_defined look (Added predicate objects) = true
is_defined look (Deleted predicate objects) = true
is_defined look (Changed op function objects value) =
    is_some value && not (divides_by_zero op value) && (not (reads_old op) || is_some (look.value function objects))

abbrev pub is_sum : Op → Bool
is_sum Increase = true
is_sum Decrease = true
is_sum Assign = false
is_sum ScaleUp = false
is_sum ScaleDown = false

abbrev pub changes_cell : ℕ → List ℕ → Change → Bool
changes_cell function objects (Changed op f os value) = nat_eq function f && same_numbers objects os
changes_cell function objects (Added predicate os) = false
changes_cell function objects (Deleted predicate os) = false

abbrev pub is_sum_change : Change → Bool
is_sum_change (Changed op function objects value) = is_sum op
is_sum_change (Added predicate objects) = true
is_sum_change (Deleted predicate objects) = true

-- the changes of one term are increases and decreases alone, or there is exactly one
abbrev pub agree : List Change → Bool
agree changes = list_all is_sum_change changes || nat_eq (length changes) 1

abbrev pub is_apart : List Change → Change → Bool
is_apart changes (Changed op function objects value) = agree (filter (changes_cell function objects) changes)
is_apart changes (Added predicate objects) = true
is_apart changes (Deleted predicate objects) = true

abbrev pub added : Change → List Atom
added (Added predicate objects) = record { predicate = predicate; objects = objects } ∷ []
added (Deleted predicate objects) = []
added (Changed op function objects value) = []

abbrev pub deleted : Change → List Atom
deleted (Added predicate objects) = []
deleted (Deleted predicate objects) = record { predicate = predicate; objects = objects } ∷ []
deleted (Changed op function objects value) = []

-- the new value of a term with this old one
abbrev pub new_value : Op → Option Number → Option Number → Option Number
new_value Assign old value = value
new_value Increase old value = plus old value
new_value Decrease old value = minus old value
new_value ScaleUp old value = times old value
new_value ScaleDown old value = over old value

abbrev pub with_some_value : List Valued → ℕ → List ℕ → Option Number → List Valued
with_some_value values function objects (Some value) = with_value values (record { cell = record { function = function; objects = objects }; value = value })
with_some_value values function objects None = values

abbrev pub with_change : List Valued → Change → List Valued
with_change values (Changed op function objects value) = with_some_value values function objects (new_value op (value_at values function objects) value)
with_change values (Added predicate objects) = values
with_change values (Deleted predicate objects) = values

-- the true atoms are the old ones without the deleted ones, together with the added ones
abbrev pub changed_state : PlainState → List Change → PlainState
changed_state state changes = record {
  atoms = fold with_atom (fold without_atom state.atoms (flat_map deleted changes)) (flat_map added changes);
  values = fold with_change state.values changes;
}

abbrev pub action_changes : TypedTask → PlainState → List ℕ → Option Action → List Change
action_changes task state objects (Some action) = firing_of (kinds_of task) (look_of state) action.effect objects
action_changes task state objects None = []

abbrev pub changes_of : TypedTask → PlainState → Instance → List Change
changes_of task state instance = action_changes task state instance.objects (slice_get task.actions instance.action)

abbrev pub precondition_holds : TypedTask → PlainState → List ℕ → Option Action → Bool
precondition_holds task state objects (Some action) = holds_in (kinds_of task) (look_of state) action.condition objects
precondition_holds task state objects None = false

-- the precondition holds, the firing effects read only defined values, and they agree on each term
abbrev pub is_applicable : TypedTask → PlainState → Instance → Bool
is_applicable task state instance =
    precondition_holds task state instance.objects (slice_get task.actions instance.action)
    && list_all (is_defined (look_of state)) (changes_of task state instance)
    && list_all (is_apart (changes_of task state instance)) (changes_of task state instance)

abbrev pub next_state : TypedTask → PlainState → Instance → PlainState
next_state task state instance = changed_state state (changes_of task state instance)

-- instances are ordered by action, then by argument list
abbrev pub instance_before : Instance → Instance → Bool
instance_before a b = nat_lt a.action b.action || (nat_eq a.action b.action && numbers_before a.objects b.objects)

-- the instances of the actions from number n on: by action, then by argument list
abbrev pub instances_from : List (List ℕ) → ℕ → List Action → List Instance
instances_from objects n [] = []
instances_from objects n (action ∷ actions) =
    map (λ arguments. record { action = n; objects = arguments }) (bindings objects action.parameters []) ++ instances_from objects (n + 1) actions

abbrev pub instances_of : TypedTask → List Instance
instances_of task = instances_from (kinds_of task) 0 task.actions
