-- Linear expressions: of a product at most one part reads a function that some action changes, and no divisor and no
-- factor of a scaling does.
use Rattle.std.specs.Prelude.{ℕ, Bool, true, false, ◌&&◌, List, [], ◌∷◌}
use Rattle.std.specs.List.{list_all}
use Rattle.mf_model.specs.declared.task.Op.{Op}
use Rattle.mf_model.specs.declared.task.Op.TheVariants.{Assign, Increase, Decrease, ScaleUp, ScaleDown}
use Rattle.mf_model.specs.declared.task.Expr.{Expr, fold-Expr}
use Rattle.mf_model.specs.declared.task.Expr.TheOpen.{Expr-F}
use Rattle.mf_model.specs.declared.task.TypedTask.{TypedTask}
use Rattle.mf_model.specs.Expressions.{every_side, every_change}
use Rattle.mf_model.specs.Functions.{is_constant}

-- it reads no changing function; it reads some, and is linear; it is not linear
pub data Degree : Type 0 where
  Constant : Degree
  Linear : Degree
  Beyond : Degree

abbrev pub sum_degree : Degree → Degree → Degree
sum_degree Constant d = d
sum_degree Linear Constant = Linear
sum_degree Linear Linear = Linear
sum_degree Linear Beyond = Beyond
sum_degree Beyond d = Beyond

abbrev pub product_degree : Degree → Degree → Degree
product_degree Constant d = d
product_degree Linear Constant = Linear
product_degree Linear Linear = Beyond
product_degree Linear Beyond = Beyond
product_degree Beyond d = Beyond

abbrev pub quotient_degree : Degree → Degree → Degree
quotient_degree d Constant = d
quotient_degree d Linear = Beyond
quotient_degree d Beyond = Beyond

abbrev pub all_degrees : (Degree → Degree → Degree) → List Degree → Degree
all_degrees join [] = Constant
all_degrees join (d ∷ ds) = join d (all_degrees join ds)

abbrev pub function_degree : Bool → Degree
function_degree true = Constant
function_degree false = Linear

abbrev pub degree_step : (ℕ → Bool) → Expr-F Degree → Degree
degree_step constant (Expr-F.Number number) = Constant
degree_step constant (Expr-F.Function function terms) = function_degree (constant function)
degree_step constant (Expr-F.Sum parts) = all_degrees sum_degree parts
degree_step constant (Expr-F.Difference left right) = sum_degree left right
degree_step constant (Expr-F.Negative part) = part
degree_step constant (Expr-F.Product parts) = all_degrees product_degree parts
degree_step constant (Expr-F.Quotient left right) = quotient_degree left right
degree_step constant Expr-F.TotalTime = Beyond

abbrev pub degree_of : (ℕ → Bool) → Expr → Degree
degree_of constant = fold-Expr Degree (degree_step constant)

abbrev pub is_within : Degree → Bool
is_within Constant = true
is_within Linear = true
is_within Beyond = false

abbrev pub is_constant_degree : Degree → Bool
is_constant_degree Constant = true
is_constant_degree Linear = false
is_constant_degree Beyond = false

abbrev pub is_linear : (ℕ → Bool) → Expr → Bool
is_linear constant value = is_within (degree_of constant value)

-- a scaling is by a constant factor
abbrev pub is_linear_change : (ℕ → Bool) → Op → ℕ → Expr → Bool
is_linear_change constant Assign function value = is_linear constant value
is_linear_change constant Increase function value = is_linear constant value
is_linear_change constant Decrease function value = is_linear constant value
is_linear_change constant ScaleUp function value = is_constant_degree (degree_of constant value)
is_linear_change constant ScaleDown function value = is_constant_degree (degree_of constant value)

-- in conditions, effects and the goal; a metric may be of any form
abbrev pub is_linear_task : TypedTask → Bool
is_linear_task task =
    list_all (λ action. every_side (is_linear (is_constant task)) action.condition
    && every_change (is_linear_change (is_constant task)) (every_side (is_linear (is_constant task))) action.effect) task.actions
    && every_side (is_linear (is_constant task)) task.goal
