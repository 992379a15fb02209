-- Faults in expressions, and which expressions are constant: those that read only functions that no effect
-- changes. Products, quotients and scalings are linear where all but one of their parts are constant.
use Rattle.std.specs.Prelude.{ℕ, ◌+◌, Bool, true, false, if◌then◌else◌, not, ◌&&◌, nat_eq, nat_le, Option, Some, None, Result, Ok, Err, List, [], ◌∷◌, ◌++◌, codes}
use Rattle.mf_fraction.specs.Exact.{Number}
use Rattle.mf_fraction.specs.Decimal.{read_of}
use Rattle.mf_fraction.specs.declared.faults.NumberFault.{NumberFault}
use Rattle.mf_fraction.specs.declared.faults.NumberFault.TheVariants.{NotANumber, Wide}
use Rattle.mf_model.specs.declared.token.Span.{Span}
use Rattle.mf_model.specs.declared.form.FileKind.{FileKind}
use Rattle.mf_model.specs.declared.form.Word.{Word}
use Rattle.mf_model.specs.declared.form.RawExpr.{RawExpr, fold-RawExpr}
use Rattle.mf_model.specs.declared.form.RawExpr.TheOpen.{RawExpr-F}
use Rattle.mf_types.specs.declared.expressions.Examined.{Examined}
use Rattle.mf_types.specs.declared.least.Fault.{Fault}
use Rattle.mf_types.specs.declared.least.FaultKind.TheVariants.{WrongCount, WideNumber, NotLinear}
use Rattle.mf_types.specs.Faults.{after, at_span, at_word}
use Rattle.mf_types.specs.Names.{is_member}
use Rattle.mf_types.specs.Scopes.{Scope}
use Rattle.mf_types.specs.Arguments.{function_parameters, function_faults}
use Rattle.mf_types.specs.Sites.{Site, unless}

-- what is seen of an expression
pub record Seen : Type 0 where
  pub constant : Bool
  pub faults : Scope → List Fault

-- Numbers

abbrev pub is_wide : Result Number NumberFault → Bool
is_wide (Ok number) = false
is_wide (Err NotANumber) = false
is_wide (Err Wide) = true

abbrev pub wide_at : FileKind → Word → List Fault
wide_at file w = if is_wide (read_of w.text) then at_word WideNumber file w else []

-- The number of steps

abbrev pub total_time : List ℕ
total_time = codes "total-time"

-- `total-time` is a function of that name where there is one
abbrev pub steps_faults : Site → Span → Option (List (List ℕ)) → List Fault
steps_faults site span (Some []) = []
steps_faults site span (Some (parameter ∷ parameters)) = at_span WrongCount site.file span
steps_faults site span None = []

abbrev pub total_time_faults : Site → Span → List Fault
total_time_faults site span = steps_faults site span (function_parameters site.declared total_time)

-- Parts

abbrev pub part_faults : List Seen → Scope → List Fault
part_faults [] scope = []
part_faults (part ∷ parts) scope = part.faults scope ++ part_faults parts scope

abbrev pub changes : Bool → ℕ
changes constant = if constant then 0 else 1

-- how many parts change
abbrev pub changing : List Seen → ℕ
changing [] = 0
changing (part ∷ parts) = changes part.constant + changing parts

-- Expressions

abbrev pub linear_faults : Site → Span → Bool → List Fault
linear_faults site span is_linear = if site.linear then unless is_linear (at_span NotLinear site.file span) else []

abbrev pub sum : List Seen → Seen
sum parts = record { constant = nat_eq (changing parts) 0; faults = part_faults parts }

abbrev pub difference : Seen → Seen → Seen
difference left right = record {
  constant = left.constant && right.constant;
  faults = λ scope. left.faults scope ++ right.faults scope;
}

-- at most one part changes
abbrev pub product : Site → Span → List Seen → Seen
product site span parts = record {
  constant = nat_eq (changing parts) 0;
  faults = λ scope. part_faults parts scope ++ linear_faults site span (nat_le (changing parts) 1);
}

-- the divisor is constant
abbrev pub quotient : Site → Span → Seen → Seen → Seen
quotient site span left right = record {
  constant = left.constant && right.constant;
  faults = λ scope. (left.faults scope ++ right.faults scope) ++ linear_faults site span right.constant;
}

abbrev pub expr_step : Site → RawExpr-F Seen → Seen
expr_step site (RawExpr-F.Number word span) = record { constant = true; faults = λ scope. wide_at site.file word }
expr_step site (RawExpr-F.Function function terms span) = record {
  constant = not (is_member site.declared.changed function.text);
  faults = λ scope. function_faults site scope function terms;
}
expr_step site (RawExpr-F.Sum parts span) = sum parts
expr_step site (RawExpr-F.Difference left right span) = difference left right
expr_step site (RawExpr-F.Negative part span) = part
expr_step site (RawExpr-F.Product parts span) = product site span parts
expr_step site (RawExpr-F.Quotient left right span) = quotient site span left right
expr_step site (RawExpr-F.TotalTime span) = record { constant = false; faults = λ scope. total_time_faults site span }

abbrev pub seen : Site → RawExpr → Seen
seen site = fold-RawExpr Seen (expr_step site)

abbrev pub expr_faults : Site → RawExpr → Scope → List Fault
expr_faults site expr scope = (seen site expr).faults scope

-- what the code finds: whether the expression is constant, and the least of the best fault so far and its faults
abbrev pub examined : Option Fault → Scope → Seen → Examined
examined best scope expr = record { constant = expr.constant; best = after best (expr.faults scope) }
