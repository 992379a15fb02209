-- Width: where an exact value leaves the range of stored fractions.
use Rattle.std.specs.Prelude.{ℕ, pos, Bool, false, ◌||◌, ◌&&◌, not, List, [], ◌∷◌, map, Option, Some, None}
use Rattle.std.specs.List.{list_any}
use Rattle.mf_fraction.specs.Exact.{Number, whole, fits}
use Rattle.mf_model.specs.declared.task.Cond.{Cond, fold-Cond}
use Rattle.mf_model.specs.declared.task.Cond.TheOpen.{Cond-F}
use Rattle.mf_model.specs.declared.task.Effect.{Effect, fold-Effect}
use Rattle.mf_model.specs.declared.task.Effect.TheOpen.{Effect-F}
use Rattle.mf_model.specs.declared.task.Expr.{Expr, fold-Expr}
use Rattle.mf_model.specs.declared.task.Expr.TheOpen.{Expr-F}
use Rattle.mf_model.specs.Meaning.{holds_in, plus, minus, times, over, negated}
use Rattle.mf_model.specs.Objects.{bindings}
use Rattle.mf_model.specs.Views.{Look, objects_of}

-- an exact value, with the mark whether some subexpression, itself among them, has a defined value that does not fit
pub record Sized : Type 0 where
  pub value : Option Number
  pub wide : Bool

abbrev pub is_too_wide : Option Number → Bool
is_too_wide (Some a) = not (fits a)
is_too_wide None = false

abbrev pub sized : Option Number → Bool → Sized
sized value parts_wide = record { value = value; wide = parts_wide || is_too_wide value }

-- a number of the task or a value of a state: it is stored, so it fits
abbrev pub stored : Option Number → Sized
stored value = record { value = value; wide = false }

abbrev pub sized_both : (Option Number → Option Number → Option Number) → Sized → Sized → Sized
sized_both f a b = sized (f a.value b.value) (a.wide || b.wide)

-- the parts taken from the left, two at a time: each front of two or more parts is a subexpression
abbrev pub sized_front : (Option Number → Option Number → Option Number) → Sized → List Sized → Sized
sized_front f a [] = a
sized_front f a (b ∷ bs) = sized_front f (sized_both f a b) bs

abbrev pub sized_all : (Option Number → Option Number → Option Number) → Number → List Sized → Sized
sized_all f none [] = stored (Some none)
sized_all f none (a ∷ others) = sized_front f a others

abbrev pub sized_step : Look → Expr-F (List ℕ → Sized) → List ℕ → Sized
sized_step look (Expr-F.Number number) b = stored (Some number)
sized_step look (Expr-F.Function function terms) b = stored (look.value function (objects_of b terms))
sized_step look (Expr-F.Sum parts) b = sized_all plus (whole (pos 0)) (map (λ part. part b) parts)
sized_step look (Expr-F.Difference left right) b = sized_both minus (left b) (right b)
sized_step look (Expr-F.Negative part) b = sized (negated (part b).value) (part b).wide
sized_step look (Expr-F.Product parts) b = sized_all times (whole (pos 1)) (map (λ part. part b) parts)
sized_step look (Expr-F.Quotient left right) b = sized_both over (left b) (right b)
sized_step look Expr-F.TotalTime b = sized (Some (whole (pos look.steps))) false

abbrev pub sized_of : Look → Expr → List ℕ → Sized
sized_of look = fold-Expr (List ℕ → Sized) (sized_step look)

-- some subexpression, fronts of sums and products among them, has a defined exact value that does not fit
abbrev pub is_wide : Look → Expr → List ℕ → Bool
is_wide look expression b = (sized_of look expression b).wide

abbrev pub condition_step : List (List ℕ) → Look → Cond-F (List ℕ → Bool) → List ℕ → Bool
condition_step objects look (Cond-F.Atom predicate terms) b = false
condition_step objects look (Cond-F.Same left right) b = false
condition_step objects look (Cond-F.Compare relation left right) b = is_wide look left b || is_wide look right b
condition_step objects look (Cond-F.Not part) b = part b
condition_step objects look (Cond-F.And parts) b = list_any (λ part. part b) parts
condition_step objects look (Cond-F.Or parts) b = list_any (λ part. part b) parts
condition_step objects look (Cond-F.Imply left right) b = left b || right b
condition_step objects look (Cond-F.All variables part) b = list_any part (bindings objects variables b)
condition_step objects look (Cond-F.Any variables part) b = list_any part (bindings objects variables b)

-- some subexpression of a comparison is too wide, for some binding of the quantifiers round it
abbrev pub is_condition_wide : List (List ℕ) → Look → Cond → List ℕ → Bool
is_condition_wide objects look = fold-Cond (List ℕ → Bool) (condition_step objects look)

abbrev pub effect_step : List (List ℕ) → Look → Effect-F (List ℕ → Bool) → List ℕ → Bool
effect_step objects look (Effect-F.Add predicate terms) b = false
effect_step objects look (Effect-F.Delete predicate terms) b = false
effect_step objects look (Effect-F.Change op function terms value) b = is_wide look value b
effect_step objects look (Effect-F.Group parts) b = list_any (λ part. part b) parts
effect_step objects look (Effect-F.Each variables part) b = list_any part (bindings objects variables b)
effect_step objects look (Effect-F.When condition part) b =
    is_condition_wide objects look condition b || (holds_in objects look condition b && part b)

-- an effect condition is too wide, or a subexpression of a right side that fires
-- (no `when` stands inside another, so every effect condition is looked at)
abbrev pub is_effect_wide : List (List ℕ) → Look → Effect → List ℕ → Bool
is_effect_wide objects look = fold-Effect (List ℕ → Bool) (effect_step objects look)
