-- The meaning of expressions over stored fractions alone: it ends with `Wide` at the first value that does not fit.
use Rattle.std.specs.Prelude.{ℕ, pos, List, [], ◌∷◌, map, Option, Some, Result, Ok}
use Rattle.mf_fraction.specs.Exact.{Number, whole}
use Rattle.mf_fraction.specs.declared.faults.Wide.{Wide}
use Rattle.mf_model.specs.declared.task.Expr.{Expr, fold-Expr}
use Rattle.mf_model.specs.declared.task.Expr.TheOpen.{Expr-F}
use Rattle.mf_model.specs.Meaning.{plus, minus, times, over, negated}
use Rattle.mf_model.specs.Views.{Look, objects_of}
use Rattle.mf_eval.specs.declared.operation.Operation.{Operation}
use Rattle.mf_eval.specs.declared.operation.Operation.TheVariants.{Sum, Difference, Product, Quotient}
use Rattle.mf_eval.specs.Answers.{answered, ◌>>=◌}
use Rattle.mf_eval.specs.Width.{is_too_wide}

abbrev pub operation_of : Operation → Option Number → Option Number → Option Number
operation_of Sum = plus
operation_of Difference = minus
operation_of Product = times
operation_of Quotient = over

-- what the operation gives where there are no parts
abbrev pub empty_of : Operation → Number
empty_of Sum = whole (pos 0)
empty_of Difference = whole (pos 0)
empty_of Product = whole (pos 1)
empty_of Quotient = whole (pos 0)

-- the value, where it fits
abbrev pub kept : Option Number → Result (Option Number) Wide
kept value = answered (is_too_wide value) value

abbrev pub as_defined : Result Number Wide → Result (Option Number) Wide
as_defined value = value >>= λ a. Ok (Some a)

abbrev pub kept_both : Operation → Result (Option Number) Wide → Result (Option Number) Wide → Result (Option Number) Wide
kept_both operation left right = left >>= λ a. right >>= λ b. kept (operation_of operation a b)

abbrev pub kept_front : Operation → Option Number → List (Result (Option Number) Wide) → Result (Option Number) Wide
kept_front operation a [] = Ok a
kept_front operation a (part ∷ parts) = part >>= λ b. kept (operation_of operation a b) >>= λ front. kept_front operation front parts

abbrev pub kept_all : Operation → List (Result (Option Number) Wide) → Result (Option Number) Wide
kept_all operation [] = Ok (Some (empty_of operation))
kept_all operation (part ∷ parts) = part >>= λ a. kept_front operation a parts

abbrev pub kept_step : Look → Expr-F (List ℕ → Result (Option Number) Wide) → List ℕ → Result (Option Number) Wide
kept_step look (Expr-F.Number number) b = Ok (Some number)
kept_step look (Expr-F.Function function terms) b = Ok (look.value function (objects_of b terms))
kept_step look (Expr-F.Sum parts) b = kept_all Sum (map (λ part. part b) parts)
kept_step look (Expr-F.Difference left right) b = kept_both Difference (left b) (right b)
kept_step look (Expr-F.Negative part) b = part b >>= λ a. kept (negated a)
kept_step look (Expr-F.Product parts) b = kept_all Product (map (λ part. part b) parts)
kept_step look (Expr-F.Quotient left right) b = kept_both Quotient (left b) (right b)
kept_step look Expr-F.TotalTime b = kept (Some (whole (pos look.steps)))

abbrev pub kept_value : Look → Expr → List ℕ → Result (Option Number) Wide
kept_value look = fold-Expr (List ℕ → Result (Option Number) Wide) (kept_step look)

abbrev pub kept_parts : Look → List Expr → List ℕ → List (Result (Option Number) Wide)
kept_parts look parts b = map (λ part. part b) (map (kept_value look) parts)
