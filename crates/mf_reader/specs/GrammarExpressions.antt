-- The grammar of expressions, and of those of a metric, in which the number of steps can stand.
use Rattle.std.specs.Prelude.{◌≡◌, ℕ, false, ◌≤◌, ◌⊎◌, List, [], ◌∷◌, length, codes}
use Rattle.std.specs.List.{list_any}
use Rattle.std.specs.Str.{bytes_eq}
use Rattle.mf_model.specs.declared.token.Kind.{Kind}
use Rattle.mf_model.specs.declared.token.Kind.TheVariants.{Name, Number}
use Rattle.mf_model.specs.declared.token.Span.{Span}
use Rattle.mf_model.specs.declared.tree.Tree.{Tree}
use Rattle.mf_model.specs.declared.form.Word.{Word}
use Rattle.mf_model.specs.declared.form.RawExpr.{RawExpr, rec-RawExpr}
use Rattle.mf_model.specs.declared.form.RawExpr.TheOpen.{RawExpr-F}
use Rattle.mf_model.specs.Forms.{IsLeaf, Each, IsList}
use Rattle.mf_reader.specs.GrammarTerms.{IsListed, IsCall}

-- (word part)
pub record IsOne (text : List ℕ) (IsPart : Tree → Type 0) (span : Span) (t : Tree) : Type 0 where
  pub part : Tree
  pub list : IsListed text (part ∷ []) span t
  pub is_part : IsPart part

-- (word left right)
pub record IsPair (text : List ℕ) (IsLeft IsRight : Tree → Type 0) (span : Span) (t : Tree) : Type 0 where
  pub left : Tree
  pub right : Tree
  pub list : IsListed text (left ∷ right ∷ []) span t
  pub is_left : IsLeft left
  pub is_right : IsRight right

-- (word part part+)
pub record IsMany (text : List ℕ) (AreParts : List Tree → Type 0) (span : Span) (t : Tree) : Type 0 where
  pub parts : List Tree
  pub list : IsListed text parts span t
  pub two : 2 ≤ length parts
  pub are_parts : AreParts parts

-- the heads of the other expressions
abbrev pub operators : List (List ℕ)
operators = codes "+" ∷ codes "*" ∷ codes "-" ∷ codes "/" ∷ []

-- (name term*), where the name is no operator
pub record IsTerms (function : Word) (terms : List Word) (span : Span) (t : Tree) : Type 0 where
  pub call : IsCall function terms span t
  pub other : list_any (λ word. bytes_eq function.text word) operators ≡ false

-- an expression; `IsTime` says how the number of steps is written at its place
abbrev pub IsExpr_form : (Span → Tree → Type 0) → (X : Type 0) → (X → RawExpr) → (X → Tree → Type 0) → RawExpr-F X → Tree → Type 0
IsExpr_form IsTime X raw IsPart (RawExpr-F.Number word span) t = IsLeaf Number word.text span t × (word.span ≡ span)
IsExpr_form IsTime X raw IsPart (RawExpr-F.Function function terms span) t = IsTerms function terms span t × ((time : Span) → ¬ IsTime time t)
IsExpr_form IsTime X raw IsPart (RawExpr-F.Sum parts span) t = IsMany (codes "+") (Each IsPart parts) span t
IsExpr_form IsTime X raw IsPart (RawExpr-F.Difference left right span) t = IsPair (codes "-") (IsPart left) (IsPart right) span t
IsExpr_form IsTime X raw IsPart (RawExpr-F.Negative part span) t = IsOne (codes "-") (IsPart part) span t
IsExpr_form IsTime X raw IsPart (RawExpr-F.Product parts span) t = IsMany (codes "*") (Each IsPart parts) span t
IsExpr_form IsTime X raw IsPart (RawExpr-F.Quotient left right span) t = IsPair (codes "/") (IsPart left) (IsPart right) span t
IsExpr_form IsTime X raw IsPart (RawExpr-F.TotalTime span) t = IsTime span t

-- the number of steps is known in a metric alone
abbrev pub NoTime : Span → Tree → Type 0
NoTime span t = ⊥

-- total-time, or (total-time); the span is that of the word
abbrev pub IsTotalTime : Span → Tree → Type 0
IsTotalTime span t =
    IsLeaf Name (codes "total-time") span t
    ⊎ ((outer : Span) × (head : Tree) × (kind : Kind) × IsList (head ∷ []) outer t × IsLeaf kind (codes "total-time") span head)

abbrev pub IsExpr : RawExpr → Tree → Type 0
IsExpr = rec-RawExpr (Tree → Type 0) (IsExpr_form NoTime)

abbrev pub IsMetricExpr : RawExpr → Tree → Type 0
IsMetricExpr = rec-RawExpr (Tree → Type 0) (IsExpr_form IsTotalTime)
