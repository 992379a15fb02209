-- Valid tasks: each number names one of its kind, each list of terms has the declared length, at most 64
-- variables are in scope, and only the metric reads the number of steps.
use Rattle.std.specs.Prelude.{ℕ, ◌+◌, ◌≤◌, ◌<◌, Bool, true, false, ◌&&◌, nat_le, nat_lt, IsTrue, List, map, length, slice_get, All, IfSome}
use Rattle.std.specs.List.{list_all}
use Rattle.mf_model.specs.Plain.{all_true}
use Rattle.mf_model.specs.Resolution.{takes}
use Rattle.mf_model.specs.declared.task.Term.{Term}
use Rattle.mf_model.specs.declared.task.Term.TheVariants.{Variable, Object}
use Rattle.mf_model.specs.declared.task.Expr.{Expr, fold-Expr}
use Rattle.mf_model.specs.declared.task.Expr.TheOpen.{Expr-F}
use Rattle.mf_model.specs.declared.task.Cond.{Cond, fold-Cond}
use Rattle.mf_model.specs.declared.task.Cond.TheOpen.{Cond-F}
use Rattle.mf_model.specs.declared.task.Effect.{Effect, fold-Effect}
use Rattle.mf_model.specs.declared.task.Effect.TheOpen.{Effect-F}
use Rattle.mf_model.specs.declared.task.Symbol.{Symbol}
use Rattle.mf_model.specs.declared.task.Action.{Action}
use Rattle.mf_model.specs.declared.task.Atom.{Atom}
use Rattle.mf_model.specs.declared.task.Valued.{Valued}
use Rattle.mf_model.specs.declared.task.TypedTask.{TypedTask}

-- how many types and objects there are, and how many parameters each predicate and each function has
pub record Counts : Type 0 where
  pub types : ℕ
  pub objects : ℕ
  pub predicates : List ℕ
  pub functions : List ℕ

abbrev pub parameter_count : Symbol → ℕ
parameter_count symbol = length symbol.parameters

abbrev pub counts_of : TypedTask → Counts
counts_of task = record {
  types = length task.types;
  objects = length task.objects;
  predicates = map parameter_count task.predicates;
  functions = map parameter_count task.functions;
}

abbrev pub are_types : Counts → List ℕ → Bool
are_types counts = list_all (λ n. nat_lt n counts.types)

abbrev pub are_type_lists : Counts → List (List ℕ) → Bool
are_type_lists counts = list_all (are_types counts)

abbrev pub are_objects : Counts → List ℕ → Bool
are_objects counts = list_all (λ n. nat_lt n counts.objects)

-- a place below the number of variables in scope, or a number below the number of objects
abbrev pub is_valid_term : Counts → ℕ → Term → Bool
is_valid_term counts variables (Variable place) = nat_lt place variables
is_valid_term counts variables (Object number) = nat_lt number counts.objects

abbrev pub are_valid_terms : Counts → ℕ → List Term → Bool
are_valid_terms counts variables = list_all (is_valid_term counts variables)

-- the symbol of a number with as many terms as it has parameters
abbrev pub is_valid_use : List ℕ → Counts → ℕ → ℕ → List Term → Bool
is_valid_use own counts variables n terms = takes (slice_get own n) (length terms) && are_valid_terms counts variables terms

-- Expressions: sums and products have two parts at least

abbrev pub expr_step : Counts → Bool → ℕ → Expr-F Bool → Bool
expr_step counts timed variables (Expr-F.Number number) = true
expr_step counts timed variables (Expr-F.Function n terms) = is_valid_use counts.functions counts variables n terms
expr_step counts timed variables (Expr-F.Sum parts) = nat_le 2 (length parts) && all_true parts
expr_step counts timed variables (Expr-F.Difference left right) = left && right
expr_step counts timed variables (Expr-F.Negative part) = part
expr_step counts timed variables (Expr-F.Product parts) = nat_le 2 (length parts) && all_true parts
expr_step counts timed variables (Expr-F.Quotient left right) = left && right
expr_step counts timed variables Expr-F.TotalTime = timed

-- whether it may read the number of steps, and how many variables are in scope
abbrev pub is_valid_expr : Counts → Bool → ℕ → Expr → Bool
is_valid_expr counts timed variables = fold-Expr Bool (expr_step counts timed variables)

-- Conditions

abbrev pub is_valid_quantifier : Counts → List (List ℕ) → (ℕ → Bool) → ℕ → Bool
is_valid_quantifier counts lists part variables =
    are_type_lists counts lists && nat_le (variables + length lists) 64 && part (variables + length lists)

abbrev pub cond_step : Counts → Cond-F (ℕ → Bool) → ℕ → Bool
cond_step counts (Cond-F.Atom n terms) variables = is_valid_use counts.predicates counts variables n terms
cond_step counts (Cond-F.Same left right) variables = is_valid_term counts variables left && is_valid_term counts variables right
cond_step counts (Cond-F.Compare relation left right) variables = is_valid_expr counts false variables left && is_valid_expr counts false variables right
cond_step counts (Cond-F.Not part) variables = part variables
cond_step counts (Cond-F.And parts) variables = all_true (map (λ part. part variables) parts)
cond_step counts (Cond-F.Or parts) variables = all_true (map (λ part. part variables) parts)
cond_step counts (Cond-F.Imply left right) variables = left variables && right variables
cond_step counts (Cond-F.All lists part) variables = is_valid_quantifier counts lists part variables
cond_step counts (Cond-F.Any lists part) variables = is_valid_quantifier counts lists part variables

abbrev pub is_valid_cond : Counts → Cond → ℕ → Bool
is_valid_cond counts = fold-Cond (ℕ → Bool) (cond_step counts)

-- Effects

abbrev pub effect_step : Counts → Effect-F (ℕ → Bool) → ℕ → Bool
effect_step counts (Effect-F.Add n terms) variables = is_valid_use counts.predicates counts variables n terms
effect_step counts (Effect-F.Delete n terms) variables = is_valid_use counts.predicates counts variables n terms
effect_step counts (Effect-F.Change op n terms value) variables = is_valid_use counts.functions counts variables n terms && is_valid_expr counts false variables value
effect_step counts (Effect-F.Group parts) variables = all_true (map (λ part. part variables) parts)
effect_step counts (Effect-F.Each lists part) variables = is_valid_quantifier counts lists part variables
effect_step counts (Effect-F.When condition part) variables = is_valid_cond counts condition variables && part variables

abbrev pub is_valid_effect : Counts → Effect → ℕ → Bool
is_valid_effect counts = fold-Effect (ℕ → Bool) (effect_step counts)

-- Tasks

pub record IsValidAction (counts : Counts) (action : Action) : Type 0 where
  pub types : IsTrue (are_type_lists counts action.parameters)
  pub limit : length action.parameters ≤ 64
  pub condition : IsTrue (is_valid_cond counts action.condition (length action.parameters))
  pub effect : IsTrue (is_valid_effect counts action.effect (length action.parameters))

abbrev pub is_ground : List ℕ → Counts → ℕ → List ℕ → Bool
is_ground own counts n objects = takes (slice_get own n) (length objects) && are_objects counts objects

abbrev pub is_valid_atom : Counts → Atom → Bool
is_valid_atom counts atom = is_ground counts.predicates counts atom.predicate atom.objects

abbrev pub is_valid_value : Counts → Valued → Bool
is_valid_value counts value = is_ground counts.functions counts value.cell.function value.cell.objects

pub record IsValidTask (task : TypedTask) : Type 0 where
  pub some_type : 0 < length task.types
  pub parents : All (λ t. t.parent < length task.types) task.types
  pub object_types : All (λ o. IsTrue (are_types (counts_of task) o.types)) task.objects
  pub object_limit : length task.objects ≤ 65535
  pub predicate_types : All (λ s. IsTrue (are_type_lists (counts_of task) s.parameters)) task.predicates
  pub predicate_limit : length task.predicates ≤ 10000
  pub function_types : All (λ s. IsTrue (are_type_lists (counts_of task) s.parameters)) task.functions
  pub function_limit : length task.functions ≤ 10000
  pub actions : All (IsValidAction (counts_of task)) task.actions
  pub action_limit : length task.actions ≤ 1000
  pub atoms : All (λ a. IsTrue (is_valid_atom (counts_of task) a)) task.atoms
  pub values : All (λ v. IsTrue (is_valid_value (counts_of task) v)) task.values
  pub goal : IsTrue (is_valid_cond (counts_of task) task.goal 0)
  pub metric : IfSome task.metric (λ m. IsTrue (is_valid_expr (counts_of task) true 0 m.value))
