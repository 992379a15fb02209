-- The form of each variant of an expression.
use Rattle.std.proofs.Common.{◌≡◌, List, [], ◌∷◌, map, refl, ap, sym, subst, codes}
use Rattle.mf_model.specs.declared.token.Span.{Span}
use Rattle.mf_model.specs.declared.tree.Tree.{Tree}
use Rattle.mf_model.specs.declared.form.RawExpr.{RawExpr, map-RawExpr, rec-RawExpr, roll-RawExpr}
use Rattle.mf_model.specs.declared.form.RawExpr.TheOpen.{RawExpr-F}
use Rattle.mf_model.specs.declared.form.RawExpr.TheFolds.{rec-roll-RawExpr}
use Rattle.mf_model.specs.Forms.{Each}
use Rattle.mf_reader.specs.GrammarExpressions.{IsMany, IsExpr_form, NoTime, IsTotalTime}
use Rattle.mf_reader.specs.declared.places.ExprPlace.{ExprPlace}
use Rattle.mf_reader.specs.declared.places.ExprPlace.TheVariants.{Action, Metric}

pub each_natural : (A X : Type 0) (v : X → A) (k : A → Tree → Type 0) (xs : List X) (ts : List Tree) → Each (λ p. k (v p)) xs ts ≡ Each k (map v xs) ts
each_natural A X v k [] [] = refl
each_natural A X v k (x ∷ xs) (t ∷ ts) = let rest = each_natural A X v k xs ts in λ i. k (v x) t × rest i
each_natural A X v k (x ∷ xs) [] = refl
each_natural A X v k [] (t ∷ ts) = refl

natural : (IsTime : Span → Tree → Type 0) (X : Type 0) (v : X → RawExpr) (k : RawExpr → Tree → Type 0) (x : RawExpr-F X) → IsExpr_form IsTime X v (λ p. k (v p)) x ≡ IsExpr_form IsTime RawExpr (λ y. y) k (map-RawExpr X RawExpr v x)
natural IsTime X v k (RawExpr-F.Number word span) = refl
natural IsTime X v k (RawExpr-F.Function function terms span) = refl
natural IsTime X v k (RawExpr-F.Sum parts span) = λ i t. IsMany (codes "+") (λ ts. each_natural RawExpr X v k parts ts i) span t
natural IsTime X v k (RawExpr-F.Difference left right span) = refl
natural IsTime X v k (RawExpr-F.Negative part span) = refl
natural IsTime X v k (RawExpr-F.Product parts span) = λ i t. IsMany (codes "*") (λ ts. each_natural RawExpr X v k parts ts i) span t
natural IsTime X v k (RawExpr-F.Quotient left right span) = refl
natural IsTime X v k (RawExpr-F.TotalTime span) = refl

-- the expressions where the number of steps is written as `IsTime` says
abbrev pub ExprBy : (Span → Tree → Type 0) → RawExpr → Tree → Type 0
ExprBy IsTime = rec-RawExpr (Tree → Type 0) (IsExpr_form IsTime)

abbrev pub RowBy : (Span → Tree → Type 0) → RawExpr-F RawExpr → Tree → Type 0
RowBy IsTime = IsExpr_form IsTime RawExpr (λ y. y) (ExprBy IsTime)

pub expr_row : (IsTime : Span → Tree → Type 0) (y : RawExpr-F RawExpr) (t : Tree) → ExprBy IsTime (roll-RawExpr y) t ≡ RowBy IsTime y t
expr_row IsTime y t = ap (λ (f : Tree → Type 0). f t) (rec-roll-RawExpr (Tree → Type 0) (IsExpr_form IsTime) (natural IsTime) y)

abbrev pub IsTimeIn : ExprPlace → Span → Tree → Type 0
IsTimeIn Action = NoTime
IsTimeIn Metric = IsTotalTime

-- the expressions of a place
abbrev pub ExprIn : ExprPlace → RawExpr → Tree → Type 0
ExprIn place = ExprBy (IsTimeIn place)

abbrev pub RowIn : ExprPlace → RawExpr-F RawExpr → Tree → Type 0
RowIn place = RowBy (IsTimeIn place)

pub by_row : (place : ExprPlace) (y : RawExpr-F RawExpr) (v : RawExpr) (t : Tree) → roll-RawExpr y ≡ v → RowIn place y t → ExprIn place v t
by_row place y v t is h = subst (λ (z : RawExpr). ExprIn place z t) is (subst (λ (T : Type 0). T) (sym (expr_row (IsTimeIn place) y t)) h)

pub row_of : (place : ExprPlace) (y : RawExpr-F RawExpr) (t : Tree) → ExprIn place (roll-RawExpr y) t → RowIn place y t
row_of place y t h = subst (λ (T : Type 0). T) (expr_row (IsTimeIn place) y t) h
