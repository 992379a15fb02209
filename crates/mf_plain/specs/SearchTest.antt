-- Whether the search takes a task, tested part by part.
use Rattle.std.specs.Prelude.{ℕ, Bool, true, false, ◌&&◌, nat_le, List, [], ◌∷◌, length, Option, Some, None}
use Rattle.std.specs.List.{list_all}
use Rattle.mf_model.specs.declared.task.Symbol.{Symbol}
use Rattle.mf_model.specs.declared.task.Action.{Action}
use Rattle.mf_model.specs.declared.task.TypedTask.{TypedTask}
use Rattle.mf_model.specs.Plain.{is_plain_cond, is_plain_effect, is_plain_fact}
use Rattle.mf_plain.specs.PlainTask.{is_object_type}

abbrev pub is_nil : {A : Type 0} → List A → Bool
is_nil [] = true
is_nil (x ∷ xs) = false

abbrev pub is_absent : {A : Type 0} → Option A → Bool
is_absent None = true
is_absent (Some x) = false

abbrev pub are_searchable_parameters : List (List ℕ) → Bool
are_searchable_parameters parameters = list_all is_object_type parameters && nat_le (length parameters) 32

abbrev pub is_searchable_symbol : Symbol → Bool
is_searchable_symbol symbol = are_searchable_parameters symbol.parameters

abbrev pub is_searchable_action : List Symbol → (objects : ℕ) → Action → Bool
is_searchable_action predicates objects action =
    are_searchable_parameters action.parameters
    && (is_plain_cond predicates (length action.parameters) objects action.condition && is_plain_effect predicates (length action.parameters) objects action.effect)

abbrev pub are_searchable_names : TypedTask → Bool
are_searchable_names task = list_all is_searchable_symbol task.predicates && is_nil task.functions

abbrev pub is_within_limits : TypedTask → Bool
is_within_limits task = nat_le (length task.objects) 65535 && (nat_le (length task.predicates) 10000 && nat_le (length task.actions) 1000)

abbrev pub is_searchable_start : TypedTask → Bool
is_searchable_start task = list_all (is_plain_fact task.predicates (length task.objects)) task.atoms && is_nil task.values

abbrev pub is_searchable_end : TypedTask → Bool
is_searchable_end task = is_plain_cond task.predicates 0 (length task.objects) task.goal && is_absent task.metric

abbrev pub is_searchable_task : TypedTask → Bool
is_searchable_task task =
    are_searchable_names task && (is_within_limits task && (list_all (is_searchable_action task.predicates (length task.objects)) task.actions && (is_searchable_start task && is_searchable_end task)))
