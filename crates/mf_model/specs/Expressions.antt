-- What every expression of a condition or an effect satisfies, and which functions an expression reads.
use Rattle.std.specs.Prelude.{ℕ, Bool, true, false, ◌&&◌, ◌||◌}
use Rattle.std.specs.List.{list_all, list_any}
use Rattle.mf_model.specs.declared.task.Op.{Op}
use Rattle.mf_model.specs.declared.task.Expr.{Expr, fold-Expr}
use Rattle.mf_model.specs.declared.task.Expr.TheOpen.{Expr-F}
use Rattle.mf_model.specs.declared.task.Cond.{Cond, fold-Cond}
use Rattle.mf_model.specs.declared.task.Cond.TheOpen.{Cond-F}
use Rattle.mf_model.specs.declared.task.Effect.{Effect, fold-Effect}
use Rattle.mf_model.specs.declared.task.Effect.TheOpen.{Effect-F}

abbrev pub every_side_step : (Expr → Bool) → Cond-F Bool → Bool
every_side_step test (Cond-F.Atom predicate terms) = true
every_side_step test (Cond-F.Same left right) = true
every_side_step test (Cond-F.Compare relation left right) = test left && test right
every_side_step test (Cond-F.Not part) = part
every_side_step test (Cond-F.And parts) = list_all (λ part. part) parts
every_side_step test (Cond-F.Or parts) = list_all (λ part. part) parts
every_side_step test (Cond-F.Imply left right) = left && right
every_side_step test (Cond-F.All variables part) = part
every_side_step test (Cond-F.Any variables part) = part

-- both sides of each comparison of a condition pass the test
abbrev pub every_side : (Expr → Bool) → Cond → Bool
every_side test = fold-Cond Bool (every_side_step test)

abbrev pub every_change_step : (Op → ℕ → Expr → Bool) → (Cond → Bool) → Effect-F Bool → Bool
every_change_step change condition (Effect-F.Add predicate terms) = true
every_change_step change condition (Effect-F.Delete predicate terms) = true
every_change_step change condition (Effect-F.Change op function terms value) = change op function value
every_change_step change condition (Effect-F.Group parts) = list_all (λ part. part) parts
every_change_step change condition (Effect-F.Each variables part) = part
every_change_step change condition (Effect-F.When guard part) = condition guard && part

-- each numeric effect, by its operation, function and right side, passes the one test, and each `when` condition the other
abbrev pub every_change : (Op → ℕ → Expr → Bool) → (Cond → Bool) → Effect → Bool
every_change change condition = fold-Effect Bool (every_change_step change condition)

abbrev pub reads_step : (ℕ → Bool) → Expr-F Bool → Bool
reads_step among (Expr-F.Number number) = false
reads_step among (Expr-F.Function function terms) = among function
reads_step among (Expr-F.Sum parts) = list_any (λ part. part) parts
reads_step among (Expr-F.Difference left right) = left || right
reads_step among (Expr-F.Negative part) = part
reads_step among (Expr-F.Product parts) = list_any (λ part. part) parts
reads_step among (Expr-F.Quotient left right) = left || right
reads_step among Expr-F.TotalTime = false

-- an expression reads some function among these
abbrev pub reads : (ℕ → Bool) → Expr → Bool
reads among = fold-Expr Bool (reads_step among)
