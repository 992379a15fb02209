-- The test of a task decides whether the search takes it.
use Rattle.std.proofs.Common.{◌≡◌, ℕ, ◌≤◌, Bool, true, List, [], ◌∷◌, length, Option, Some, None, All, refl, ap, ◌&&◌, nat_le}
use Rattle.std.specs.Bool.{Decides}
use Rattle.std.specs.List.{list_all}
use Rattle.std.proofs.lemmas.Bool.{false≢true, leb-true, le-leb}
use Rattle.std.proofs.lemmas.Bool.Decides.{Decides-and, Decides-like, Decides-by_and}
use Rattle.mf_model.specs.declared.task.Symbol.{Symbol}
use Rattle.mf_model.specs.declared.task.Action.{Action}
use Rattle.mf_model.specs.declared.task.TypedTask.{TypedTask}
use Rattle.mf_model.specs.Plain.{is_plain_cond, is_plain_effect, is_plain_fact}
use Rattle.mf_plain.specs.PlainTask.{IsObjectType, is_object_type}
use Rattle.mf_plain.specs.SearchTask.{IsSearchAction, IsSearchSymbol, IsSearchTask}
use Rattle.mf_plain.specs.SearchTest.{is_nil, is_absent, are_searchable_parameters, is_searchable_symbol, is_searchable_action, are_searchable_names, is_within_limits, is_searchable_start, is_searchable_end, is_searchable_task}

itself : (b : Bool) → Decides b (b ≡ true)
itself b = (λ h. h, λ h. h)

within : (a b : ℕ) → Decides (nat_le a b) (a ≤ b)
within a b = (leb-true a b, le-leb a b)

all_pass : {X : Type 0} (p : X → Bool) (P : X → Type 0) → ((x : X) → Decides (p x) (P x)) → (xs : List X) → Decides (list_all p xs) (All P xs)
all_pass p P each xs = Decides-by_and p P (list_all p) each refl (λ _ _. refl) xs

nil : {A : Type 0} (xs : List A) → Decides (is_nil xs) (xs ≡ [])
nil [] = (λ h. refl, λ h. refl)
nil (x ∷ xs) = (λ h. absurd (false≢true h), λ h. absurd (false≢true (ap is_nil h)))

absent : {A : Type 0} (x : Option A) → Decides (is_absent x) (x ≡ None)
absent None = (λ h. refl, λ h. refl)
absent (Some x) = (λ h. absurd (false≢true h), λ h. absurd (false≢true (ap is_absent h)))

-- the parts

object_type : (types : List ℕ) → Decides (is_object_type types) (IsObjectType types)
object_type types = itself (is_object_type types)

parameters : (types : List (List ℕ)) → Decides (are_searchable_parameters types) (All IsObjectType types × (length types ≤ 32))
parameters types = Decides-and (list_all is_object_type types) (nat_le (length types) 32) (all_pass is_object_type IsObjectType object_type types) (within (length types) 32)

symbol : (symbol : Symbol) → Decides (is_searchable_symbol symbol) (IsSearchSymbol symbol)
symbol it = Decides-like (is_searchable_symbol it) (λ h. record { types = h.0; limit = h.1 }) (λ h. (h.types, h.limit)) (parameters it.parameters)

action : (predicates : List Symbol) (objects : ℕ) (action : Action) → Decides (is_searchable_action predicates objects action) (IsSearchAction predicates objects action)
action predicates objects it =
    let condition = is_plain_cond predicates (length it.parameters) objects it.condition in
    let effect = is_plain_effect predicates (length it.parameters) objects it.effect in
    Decides-like (is_searchable_action predicates objects it)
    (λ h. record { types = h.0.0; limit = h.0.1; condition = h.1.0; effect = h.1.1 })
    (λ h. ((h.types, h.limit), (h.condition, h.effect)))
    (Decides-and (are_searchable_parameters it.parameters) (condition && effect) (parameters it.parameters) (Decides-and condition effect (itself condition) (itself effect)))

-- the task

abbrev Names : TypedTask → Type 0
Names task = All IsSearchSymbol task.predicates × (task.functions ≡ [])

names : (task : TypedTask) → Decides (are_searchable_names task) (Names task)
names task =
    Decides-and (list_all is_searchable_symbol task.predicates) (is_nil task.functions)
    (all_pass is_searchable_symbol IsSearchSymbol symbol task.predicates)
    (nil task.functions)

abbrev Limits : TypedTask → Type 0
Limits task = (length task.objects ≤ 65535) × ((length task.predicates ≤ 10000) × (length task.actions ≤ 1000))

limits : (task : TypedTask) → Decides (is_within_limits task) (Limits task)
limits task =
    Decides-and (nat_le (length task.objects) 65535) (nat_le (length task.predicates) 10000 && nat_le (length task.actions) 1000)
    (within (length task.objects) 65535)
    (Decides-and (nat_le (length task.predicates) 10000) (nat_le (length task.actions) 1000)
    (within (length task.predicates) 10000) (within (length task.actions) 1000))

abbrev Start : TypedTask → Type 0
Start task = All (λ atom. is_plain_fact task.predicates (length task.objects) atom ≡ true) task.atoms × (task.values ≡ [])

start : (task : TypedTask) → Decides (is_searchable_start task) (Start task)
start task =
    let fact = is_plain_fact task.predicates (length task.objects) in
    Decides-and (list_all fact task.atoms) (is_nil task.values) (all_pass fact (λ atom. fact atom ≡ true) (λ atom. itself (fact atom)) task.atoms) (nil task.values)

abbrev End : TypedTask → Type 0
End task = (is_plain_cond task.predicates 0 (length task.objects) task.goal ≡ true) × (task.metric ≡ None)

end : (task : TypedTask) → Decides (is_searchable_end task) (End task)
end task =
    let goal = is_plain_cond task.predicates 0 (length task.objects) task.goal in
    Decides-and goal (is_absent task.metric) (itself goal) (absent task.metric)

abbrev Actions : TypedTask → Type 0
Actions task = All (IsSearchAction task.predicates (length task.objects)) task.actions

parts : (task : TypedTask) → Decides (is_searchable_task task) (Names task × (Limits task × (Actions task × (Start task × End task))))
parts task =
    let actions = list_all (is_searchable_action task.predicates (length task.objects)) task.actions in
    Decides-and (are_searchable_names task) (is_within_limits task && (actions && (is_searchable_start task && is_searchable_end task))) (names task)
    (Decides-and (is_within_limits task) (actions && (is_searchable_start task && is_searchable_end task)) (limits task)
    (Decides-and actions (is_searchable_start task && is_searchable_end task)
    (all_pass (is_searchable_action task.predicates (length task.objects)) (IsSearchAction task.predicates (length task.objects)) (action task.predicates (length task.objects)) task.actions)
    (Decides-and (is_searchable_start task) (is_searchable_end task) (start task) (end task))))

together : (task : TypedTask) → Names task → Limits task → Actions task → Start task → End task → IsSearchTask task
together task names limits actions start end = record {
  object_limit = limits.0;
  predicates = names.0;
  predicate_limit = limits.1.0;
  functions = names.1;
  actions = actions;
  action_limit = limits.1.1;
  atoms = start.0;
  values = start.1;
  goal = end.0;
  metric = end.1;
}

apart : (task : TypedTask) → IsSearchTask task → Names task × (Limits task × (Actions task × (Start task × End task)))
apart task plain =
    let names : Names task = (plain.predicates, plain.functions) in
    let limits : Limits task = (plain.object_limit, (plain.predicate_limit, plain.action_limit)) in
    let start : Start task = (plain.atoms, plain.values) in
    let end : End task = (plain.goal, plain.metric) in
    (names, (limits, (plain.actions, (start, end))))

pub test_decides : (task : TypedTask) → Decides (is_searchable_task task) (IsSearchTask task)
test_decides task = Decides-like (is_searchable_task task) (λ h. together task h.0 h.1.0 h.1.1.0 h.1.1.1.0 h.1.1.1.1) (apart task) (parts task)
