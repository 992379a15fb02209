-- When a condition holds, fails or does neither, and the value of an expression (PDDL 2.1, section 3 of Fox and Long):
-- on the tree as written, in exact fractions of any size.
use Rattle.std.specs.Prelude.{ℕ, pos, Bool, true, false, nat_eq, List, [], ◌∷◌, map, Option, Some, None}
use Rattle.mf_fraction.specs.Exact.{Number, whole, sum_of, difference_of, product_of, quotient_of, negative_of, is_below, is_at_most, is_same}
use Rattle.mf_model.specs.declared.task.Relation.{Relation}
use Rattle.mf_model.specs.declared.task.Relation.TheVariants as relation
use Rattle.mf_model.specs.declared.task.Cond.{Cond, fold-Cond}
use Rattle.mf_model.specs.declared.task.Cond.TheOpen.{Cond-F}
use Rattle.mf_model.specs.declared.task.Expr.{Expr, fold-Expr}
use Rattle.mf_model.specs.declared.task.Expr.TheOpen.{Expr-F}
use Rattle.mf_model.specs.declared.truth.Truth.{Truth}
use Rattle.mf_model.specs.declared.truth.Truth.TheVariants.{Yes, No, Neither}
use Rattle.mf_model.specs.Objects.{bindings}
use Rattle.mf_model.specs.Views.{Look, object_of, objects_of}

abbrev pub truth_of : Bool → Truth
truth_of true = Yes
truth_of false = No

abbrev pub not_of : Truth → Truth
not_of Yes = No
not_of No = Yes
not_of Neither = Neither

-- holds where both do, fails where one does
abbrev pub and_of : Truth → Truth → Truth
and_of Yes u = u
and_of No u = No
and_of Neither No = No
and_of Neither u = Neither

abbrev pub or_of : Truth → Truth → Truth
or_of t u = not_of (and_of (not_of t) (not_of u))

-- all hold; some one fails
abbrev pub all_of : List Truth → Truth
all_of [] = Yes
all_of (t ∷ ts) = and_of t (all_of ts)

abbrev pub any_of : List Truth → Truth
any_of [] = No
any_of (t ∷ ts) = or_of t (any_of ts)

-- an operation on defined values; it is undefined where a side is
abbrev pub with_both : (Number → Number → Option Number) → Option Number → Option Number → Option Number
with_both f (Some a) (Some b) = f a b
with_both f (Some a) None = None
with_both f None b = None

abbrev pub plus : Option Number → Option Number → Option Number
plus = with_both (λ a b. Some (sum_of a b))

abbrev pub minus : Option Number → Option Number → Option Number
minus = with_both (λ a b. Some (difference_of a b))

abbrev pub times : Option Number → Option Number → Option Number
times = with_both (λ a b. Some (product_of a b))

abbrev pub over : Option Number → Option Number → Option Number
over = with_both quotient_of

abbrev pub negated : Option Number → Option Number
negated (Some a) = Some (negative_of a)
negated None = None

-- the parts taken from the left, two at a time
abbrev pub combined : (Option Number → Option Number → Option Number) → Option Number → List (Option Number) → Option Number
combined f a [] = a
combined f a (b ∷ bs) = combined f (f a b) bs

abbrev pub sum_of_all : List (Option Number) → Option Number
sum_of_all [] = Some (whole (pos 0))
sum_of_all (a ∷ others) = combined plus a others

abbrev pub product_of_all : List (Option Number) → Option Number
product_of_all [] = Some (whole (pos 1))
product_of_all (a ∷ others) = combined times a others

abbrev pub value_step : Look → Expr-F (List ℕ → Option Number) → List ℕ → Option Number
value_step look (Expr-F.Number number) b = Some number
value_step look (Expr-F.Function function terms) b = look.value function (objects_of b terms)
value_step look (Expr-F.Sum parts) b = sum_of_all (map (λ part. part b) parts)
value_step look (Expr-F.Difference left right) b = minus (left b) (right b)
value_step look (Expr-F.Negative part) b = negated (part b)
value_step look (Expr-F.Product parts) b = product_of_all (map (λ part. part b) parts)
value_step look (Expr-F.Quotient left right) b = over (left b) (right b)
value_step look Expr-F.TotalTime b = Some (whole (pos look.steps))

-- the value of an expression under a binding: none where it reads an undefined term or divides by 0
abbrev pub value_of : Look → Expr → List ℕ → Option Number
value_of look = fold-Expr (List ℕ → Option Number) (value_step look)

abbrev pub ordered : Relation → Number → Number → Bool
ordered relation.Less a b = is_below a b
ordered relation.AtMost a b = is_at_most a b
ordered relation.Equal a b = is_same a b
ordered relation.AtLeast a b = is_at_most b a
ordered relation.More a b = is_below b a

-- a comparison with an undefined side neither holds nor fails
abbrev pub compared : Relation → Option Number → Option Number → Truth
compared r (Some a) (Some b) = truth_of (ordered r a b)
compared r (Some a) None = Neither
compared r None b = Neither

abbrev pub holds_step : List (List ℕ) → Look → Cond-F (List ℕ → Truth) → List ℕ → Truth
holds_step objects look (Cond-F.Atom predicate terms) b = truth_of (look.atom predicate (objects_of b terms))
holds_step objects look (Cond-F.Same left right) b = truth_of (nat_eq (object_of b left) (object_of b right))
holds_step objects look (Cond-F.Compare r left right) b = compared r (value_of look left b) (value_of look right b)
holds_step objects look (Cond-F.Not part) b = not_of (part b)
holds_step objects look (Cond-F.And parts) b = all_of (map (λ part. part b) parts)
holds_step objects look (Cond-F.Or parts) b = any_of (map (λ part. part b) parts)
holds_step objects look (Cond-F.Imply left right) b = or_of (not_of (left b)) (right b)
holds_step objects look (Cond-F.All variables part) b = all_of (map part (bindings objects variables b))
holds_step objects look (Cond-F.Any variables part) b = any_of (map part (bindings objects variables b))

-- what a condition is under a binding, with quantifiers over the objects of their types
abbrev pub truth_in : List (List ℕ) → Look → Cond → List ℕ → Truth
truth_in objects look = fold-Cond (List ℕ → Truth) (holds_step objects look)

abbrev pub is_yes : Truth → Bool
is_yes Yes = true
is_yes No = false
is_yes Neither = false

abbrev pub holds_in : List (List ℕ) → Look → Cond → List ℕ → Bool
holds_in objects look condition b = is_yes (truth_in objects look condition b)
