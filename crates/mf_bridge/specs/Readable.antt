-- Expressions whose values forms tell, and conditions and effects of such expressions.
use Rattle.std.specs.Prelude.{◌≡◌, ℕ, true}
use Rattle.mf_model.specs.declared.task.Expr.{Expr}
use Rattle.mf_model.specs.declared.task.Cond.{Cond}
use Rattle.mf_model.specs.declared.task.Effect.{Effect}
use Rattle.mf_model.specs.declared.task.TypedTask.{TypedTask}
use Rattle.mf_model.specs.Expressions.{every_change, every_side}
use Rattle.mf_model.specs.Functions.{avoids, is_constant, is_cost}
use Rattle.mf_model.specs.Linearity.{is_linear, is_linear_change}
use Rattle.mf_model.specs.ResolvedTask.{has_stored_numbers}

-- it is linear, its numbers are in lowest terms, and it reads no cost
pub record IsReadable (task : TypedTask) (expression : Expr) : Type 0 where
  pub linear : is_linear (is_constant task) expression ≡ true
  pub numbers : has_stored_numbers expression ≡ true
  pub costless : (function : ℕ) → is_cost task function ≡ true → avoids function expression ≡ true

-- both sides of each comparison are so
pub record IsReadableCondition (task : TypedTask) (condition : Cond) : Type 0 where
  pub linear : every_side (is_linear (is_constant task)) condition ≡ true
  pub numbers : every_side has_stored_numbers condition ≡ true
  pub costless : (function : ℕ) → is_cost task function ≡ true → every_side (avoids function) condition ≡ true

-- each right side is so, where that of a scaling reads no changing function, and each `when` condition
pub record IsReadableEffect (task : TypedTask) (effect : Effect) : Type 0 where
  pub linear : every_change (is_linear_change (is_constant task)) (every_side (is_linear (is_constant task))) effect ≡ true
  pub numbers : every_change (λ op changed value. has_stored_numbers value) (every_side has_stored_numbers) effect ≡ true
  pub costless : (function : ℕ) → is_cost task function ≡ true → every_change (λ op changed value. avoids function value) (every_side (avoids function)) effect ≡ true
