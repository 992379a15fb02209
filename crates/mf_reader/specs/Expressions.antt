-- Arithmetic expressions.
use Rattle.std.specs.Prelude.{Bool, false, ℕ, if◌then◌else◌, List, [], ◌∷◌, codes}
use Rattle.std.specs.Str.{bytes_eq}
use Rattle.mf_model.specs.declared.token.Kind.{Kind}
use Rattle.mf_model.specs.declared.token.Kind.TheVariants.{Name, Number, Plain}
use Rattle.mf_model.specs.declared.token.Span.{Span}
use Rattle.mf_model.specs.declared.form.RawExpr.{RawExpr}
use Rattle.mf_model.specs.declared.form.RawExpr.TheVariants as x
use Rattle.mf_reader.specs.declared.atoms.CallForm.{CallForm}
use Rattle.mf_reader.specs.declared.heads.ExprHead.{ExprHead}
use Rattle.mf_reader.specs.declared.heads.ExprHead.TheVariants.{Sum, Product, Minus, Quotient, Other}
use Rattle.mf_reader.specs.declared.places.ExprPlace.{ExprPlace}
use Rattle.mf_reader.specs.declared.places.ExprPlace.TheVariants.{Action, Metric}
use Rattle.mf_reader.specs.Atoms.{call_at}
use Rattle.mf_reader.specs.Faces.{has_text, span_of, word}
use Rattle.mf_reader.specs.Heads.{expr_head_of}
use Rattle.mf_reader.specs.Places.{Seen, expr_in}
use Rattle.mf_reader.specs.Said.{Said, said, bad, left_out, both, mapped, each}

abbrev pub no_expr : Span → Said RawExpr
no_expr span = bad span (x.TotalTime span)

-- Words

-- the time that passes is left out
abbrev pub plain_expr : List ℕ → Span → Said RawExpr
plain_expr text span = if bytes_eq text (codes "#t") then left_out span (x.TotalTime span) else no_expr span

-- `total-time` is known in a metric alone
abbrev pub name_expr : ExprPlace → List ℕ → Span → Said RawExpr
name_expr Action text span = no_expr span
name_expr Metric text span = if bytes_eq text (codes "total-time") then said (x.TotalTime span) else no_expr span

abbrev pub word_expr : ExprPlace → Kind → List ℕ → Span → Said RawExpr
word_expr place Number text span = said (x.Number (word text span) span)
word_expr place Plain text span = plain_expr text span
word_expr place Name text span = name_expr place text span
word_expr place kind text span = no_expr span

-- Lists

abbrev pub function_expr : CallForm → RawExpr
function_expr call = x.Function call.function call.terms call.span

-- (function term*)
abbrev pub call_expr : Span → List Seen → Said RawExpr
call_expr span items = mapped function_expr (call_at span items)

abbrev pub is_total_time : List Seen → Bool
is_total_time [] = false
is_total_time (head ∷ []) = has_text (codes "total-time") head.face
is_total_time (head ∷ part ∷ parts) = false

abbrev pub head_span : Span → List Seen → Span
head_span span [] = span
head_span span (head ∷ parts) = span_of head.face

-- in a metric also (total-time), with the place of its word
abbrev pub term_expr : ExprPlace → Span → List Seen → Said RawExpr
term_expr Action span items = call_expr span items
term_expr Metric span items = if is_total_time items then said (x.TotalTime (head_span span items)) else call_expr span items

-- two parts or more
abbrev pub sum_expr : ExprPlace → Span → List Seen → Said RawExpr
sum_expr place span (a ∷ b ∷ rest) = mapped (λ parts. x.Sum parts span) (each (expr_in place) (a ∷ b ∷ rest))
sum_expr place span parts = no_expr span

abbrev pub product_expr : ExprPlace → Span → List Seen → Said RawExpr
product_expr place span (a ∷ b ∷ rest) = mapped (λ parts. x.Product parts span) (each (expr_in place) (a ∷ b ∷ rest))
product_expr place span parts = no_expr span

-- one part is negated, the second of two is taken away
abbrev pub minus_expr : ExprPlace → Span → List Seen → Said RawExpr
minus_expr place span (a ∷ []) = mapped (λ part. x.Negative part span) (expr_in place a)
minus_expr place span (a ∷ b ∷ []) = both (λ left right. x.Difference left right span) (expr_in place a) (expr_in place b)
minus_expr place span parts = no_expr span

abbrev pub quotient_expr : ExprPlace → Span → List Seen → Said RawExpr
quotient_expr place span (a ∷ b ∷ []) = both (λ left right. x.Quotient left right span) (expr_in place a) (expr_in place b)
quotient_expr place span parts = no_expr span

abbrev pub expr_by : ExprHead → ExprPlace → Span → Seen → List Seen → Said RawExpr
expr_by Sum place span head parts = sum_expr place span parts
expr_by Product place span head parts = product_expr place span parts
expr_by Minus place span head parts = minus_expr place span parts
expr_by Quotient place span head parts = quotient_expr place span parts
expr_by Other place span head parts = term_expr place span (head ∷ parts)

abbrev pub list_expr : ExprPlace → Span → List Seen → Said RawExpr
list_expr place span [] = no_expr span
list_expr place span (head ∷ parts) = expr_by (expr_head_of head.face) place span head parts
