-- How many variables are in scope at one place of a condition, an effect or an action, at most.
use Rattle.std.specs.Prelude.{ℕ, ◌+◌, ◌≤◌, max, length, Option, Some, None}
use Rattle.mf_model.specs.declared.task.Action.{Action}
use Rattle.mf_model.specs.declared.task.Cond.{Cond, fold-Cond}
use Rattle.mf_model.specs.declared.task.Cond.TheOpen.{Cond-F}
use Rattle.mf_model.specs.declared.task.Effect.{Effect, fold-Effect}
use Rattle.mf_model.specs.declared.task.Effect.TheOpen.{Effect-F}
use Rattle.mf_model.specs.Trees.{greatest}

abbrev pub scope_step : Cond-F ℕ → ℕ
scope_step (Cond-F.Atom predicate terms) = 0
scope_step (Cond-F.Same left right) = 0
scope_step (Cond-F.Compare relation left right) = 0
scope_step (Cond-F.Not part) = part
scope_step (Cond-F.And parts) = greatest parts
scope_step (Cond-F.Or parts) = greatest parts
scope_step (Cond-F.Imply left right) = max left right
scope_step (Cond-F.All variables part) = length variables + part
scope_step (Cond-F.Any variables part) = length variables + part

-- of a condition: the variables of its quantifiers
abbrev pub scope_of : Cond → ℕ
scope_of = fold-Cond ℕ scope_step

abbrev pub effect_scope_step : Effect-F ℕ → ℕ
effect_scope_step (Effect-F.Add predicate terms) = 0
effect_scope_step (Effect-F.Delete predicate terms) = 0
effect_scope_step (Effect-F.Change op function terms value) = 0
effect_scope_step (Effect-F.Group parts) = greatest parts
effect_scope_step (Effect-F.Each variables part) = length variables + part
effect_scope_step (Effect-F.When condition part) = max (scope_of condition) part

-- of an effect: those of its quantifiers and conditions
abbrev pub effect_scope_of : Effect → ℕ
effect_scope_of = fold-Effect ℕ effect_scope_step

-- of an action: those beside its parameters
abbrev pub action_scope_of : Option Action → ℕ
action_scope_of (Some action) = max (scope_of action.condition) (effect_scope_of action.effect)
action_scope_of None = 0

-- of an action: the parameters and those beside them are 64 at most
abbrev pub BindsFewVariables : Action → Type 0
BindsFewVariables action = length action.parameters + action_scope_of (Some action) ≤ 64
