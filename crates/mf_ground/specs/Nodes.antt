-- How many nodes the conditions and effects of a task have once it is instantiated: a quantifier's part counts once
-- for each binding of its variables, an action's condition and effect once for each of its live instances.
use Rattle.std.specs.Prelude.{ℕ, ◌+◌, ◌*◌, List, [], map, length, sum}
use Rattle.mf_model.specs.declared.task.Cond.{Cond, fold-Cond}
use Rattle.mf_model.specs.declared.task.Cond.TheOpen.{Cond-F}
use Rattle.mf_model.specs.declared.task.Effect.{Effect, fold-Effect}
use Rattle.mf_model.specs.declared.task.Effect.TheOpen.{Effect-F}
use Rattle.mf_model.specs.declared.task.Action.{Action}
use Rattle.mf_model.specs.declared.task.TypedTask.{TypedTask}
use Rattle.mf_model.specs.LiveInstances.{live_lists}
use Rattle.mf_model.specs.Objects.{bindings, kinds_of}

-- how many bindings variables of these types have
abbrev pub ways : List (List ℕ) → List (List ℕ) → ℕ
ways objects variables = length (bindings objects variables [])

abbrev pub nodes_step : List (List ℕ) → Cond-F ℕ → ℕ
nodes_step objects (Cond-F.Atom predicate terms) = 1
nodes_step objects (Cond-F.Same left right) = 1
nodes_step objects (Cond-F.Compare relation left right) = 1
nodes_step objects (Cond-F.Not part) = 1 + part
nodes_step objects (Cond-F.And parts) = 1 + sum parts
nodes_step objects (Cond-F.Or parts) = 1 + sum parts
nodes_step objects (Cond-F.Imply left right) = 1 + left + right
nodes_step objects (Cond-F.All variables part) = 1 + ways objects variables * part
nodes_step objects (Cond-F.Any variables part) = 1 + ways objects variables * part

-- of a condition: one for itself, and those of its parts; `()` is an `and` without parts
abbrev pub nodes_of : List (List ℕ) → Cond → ℕ
nodes_of objects = fold-Cond ℕ (nodes_step objects)

abbrev pub effect_nodes_step : List (List ℕ) → Effect-F ℕ → ℕ
effect_nodes_step objects (Effect-F.Add predicate terms) = 1
effect_nodes_step objects (Effect-F.Delete predicate terms) = 1
effect_nodes_step objects (Effect-F.Change op function terms value) = 1
effect_nodes_step objects (Effect-F.Group parts) = sum parts
effect_nodes_step objects (Effect-F.Each variables part) = ways objects variables * part
effect_nodes_step objects (Effect-F.When condition part) = nodes_of objects condition + part

-- of an effect: one for each primitive effect, and those of the `when` conditions, for each binding of the `forall` round it
abbrev pub effect_nodes_of : List (List ℕ) → Effect → ℕ
effect_nodes_of objects = fold-Effect ℕ (effect_nodes_step objects)

-- of one instance of an action
abbrev pub instance_nodes : List (List ℕ) → Action → ℕ
instance_nodes objects action = nodes_of objects action.condition + effect_nodes_of objects action.effect

-- of all live instances of an action
abbrev pub action_nodes : TypedTask → Action → ℕ
action_nodes task action = length (live_lists task action action.parameters) * instance_nodes (kinds_of task) action

-- of the live instances and the goal
abbrev pub node_count : TypedTask → ℕ
node_count task = sum (map (action_nodes task) task.actions) + nodes_of (kinds_of task) task.goal
