-- Resolved tasks: what is true of each task that a domain file and a problem file give.
use Rattle.std.specs.Prelude.{◌≡◌, ℕ, ◌+◌, ◌≤◌, Bool, true, ◌&&◌, IsTrue, nat_lt, nat_eq, List, map, length, All, IfSome, unsigned_abs}
use Rattle.std.specs.List.{list_all, IsDistinct}
use Rattle.std.specs.Str.{bytes_eq}
use Rattle.mf_fraction.specs.Exact.{Number, fits}
use Rattle.mf_fraction.specs.Gcd.{gcd}
use Rattle.mf_model.specs.declared.task.Expr.{Expr, fold-Expr}
use Rattle.mf_model.specs.declared.task.Expr.TheOpen.{Expr-F}
use Rattle.mf_model.specs.declared.task.Effect.{Effect, fold-Effect}
use Rattle.mf_model.specs.declared.task.Effect.TheOpen.{Effect-F}
use Rattle.mf_model.specs.declared.task.TypedTask.{TypedTask}
use Rattle.mf_model.specs.Expressions.{every_side, every_change}
use Rattle.mf_model.specs.Linearity.{is_linear_task}
use Rattle.mf_model.specs.Objects.{HaveTopType}
use Rattle.mf_model.specs.TaskLimits.{IsWithinLimits}
use Rattle.mf_model.specs.Tokens.{is_name}
use Rattle.mf_model.specs.Trees.{greatest}
use Rattle.mf_model.specs.ValidTasks.{IsValidTask}

-- Numbers

-- in lowest terms, and both parts are at most 2^62 in size
abbrev pub is_stored : Number → Bool
is_stored a = fits a && nat_lt 0 a.den && nat_eq (gcd (unsigned_abs a.num) a.den) 1

abbrev pub stored_step : Expr-F Bool → Bool
stored_step (Expr-F.Number number) = is_stored number
stored_step (Expr-F.Function function terms) = true
stored_step (Expr-F.Sum parts) = list_all (λ part. part) parts
stored_step (Expr-F.Difference left right) = left && right
stored_step (Expr-F.Negative part) = part
stored_step (Expr-F.Product parts) = list_all (λ part. part) parts
stored_step (Expr-F.Quotient left right) = left && right
stored_step Expr-F.TotalTime = true

-- each number of the expression is stored so
abbrev pub has_stored_numbers : Expr → Bool
has_stored_numbers = fold-Expr Bool stored_step

pub record AreNumbersStored (task : TypedTask) : Type 0 where
  pub conditions : All (λ action. IsTrue (every_side has_stored_numbers action.condition)) task.actions
  pub effects : All (λ action. IsTrue (every_change (λ op function value. has_stored_numbers value) (every_side has_stored_numbers) action.effect)) task.actions
  pub values : All (λ v. IsTrue (is_stored v.value)) task.values
  pub goal : IsTrue (every_side has_stored_numbers task.goal)
  pub metric : IfSome task.metric (λ m. IsTrue (has_stored_numbers m.value))

-- `when`

abbrev pub when_step : Effect-F ℕ → ℕ
when_step (Effect-F.Add predicate terms) = 0
when_step (Effect-F.Delete predicate terms) = 0
when_step (Effect-F.Change op function terms value) = 0
when_step (Effect-F.Group parts) = greatest parts
when_step (Effect-F.Each variables part) = part
when_step (Effect-F.When condition part) = 1 + part

-- how many `when` effects occur in one another
abbrev pub when_depth : Effect → ℕ
when_depth = fold-Effect ℕ when_step

-- Names

-- words of kind Name in lower case, no two the same
pub record AreNames (names : List (List ℕ)) : Type 0 where
  pub words : All (λ name. is_name name ≡ true) names
  pub apart : IsDistinct bytes_eq names

pub record HaveNames (task : TypedTask) : Type 0 where
  pub types : AreNames (map (λ t. t.name) task.types)
  pub objects : AreNames (map (λ o. o.name) task.objects)
  pub predicates : AreNames (map (λ s. s.name) task.predicates)
  pub functions : AreNames (map (λ s. s.name) task.functions)
  pub actions : AreNames (map (λ a. a.name) task.actions)

-- The task

-- the task is one that two files give: its numbers name what is declared, its lists have the declared lengths, it keeps
-- the limits, each object has the type `object`, expressions outside the metric are linear, numbers fit and are in lowest
-- terms, no `when` occurs in another, and names are names
pub record IsResolvedTask (task : TypedTask) : Type 0 where
  pub valid : IsValidTask task
  pub limits : IsWithinLimits task
  pub types : length task.types ≤ 10001
  pub top : HaveTopType task
  pub linear : IsTrue (is_linear_task task)
  pub numbers : AreNumbersStored task
  pub flat : All (λ action. when_depth action.effect ≤ 1) task.actions
  pub names : HaveNames task
