-- Expressions of the grammar are written as it says.
use Rattle.std.proofs.Common.{◌≡◌, ◌≤◌, Bool, true, false, ◌&&◌, nat_le, List, map, length, refl, ap, ◌∙◌, subst}
use Rattle.std.proofs.lemmas.List.{length-map}
use Rattle.mf_model.proofs.Choices.{and_true}
use Rattle.mf_model.specs.declared.token.Span.{Span}
use Rattle.mf_model.specs.declared.tree.Tree.{Tree}
use Rattle.mf_model.specs.declared.form.RawExpr.{RawExpr}
use Rattle.mf_model.specs.declared.form.RawExpr.TheOpen.{RawExpr-F}
use Rattle.mf_model.specs.declared.form.RawExpr.TheFolds.{ind-RawExpr, fold-roll-RawExpr, map-RawExpr}
use Rattle.mf_model.specs.Forms.{Each}
use Rattle.mf_model.specs.Plain.{all_true}
use Rattle.mf_reader.specs.GrammarExpressions.{NoTime, IsTotalTime, IsExpr, IsMetricExpr}
use Rattle.mf_reader.proofs.ExprRows.{ExprBy, RowBy, expr_row}
use Rattle.mf_types.specs.Written.{expr_step, is_written_expr}
use Rattle.mf_input.proofs.WrittenParts.{parts_written, two_written}

module _ (IsTime : Span → Tree → Type 0) (timed : Bool) (allowed : (span : Span) (t : Tree) → IsTime span t → timed ≡ true) where
  abbrev Claim : RawExpr → Type 0
  Claim e = (t : Tree) → ExprBy IsTime e t → is_written_expr timed e ≡ true

  abbrev Piece : Type 0
  Piece = (e : RawExpr) × Claim e

  abbrev raw_of : Piece → RawExpr
  raw_of p = p.0

  many_written : (parts : List Piece) (ts : List Tree) → 2 ≤ length ts → Each (ExprBy IsTime) (map raw_of parts) ts →
      (nat_le 2 (length (map (is_written_expr timed) (map raw_of parts))) && all_true (map (is_written_expr timed) (map raw_of parts))) ≡ true
  many_written parts ts two each =
      let wholes = map (is_written_expr timed) (map raw_of parts) in
      and_true (nat_le 2 (length wholes)) (all_true wholes)
      (ap (nat_le 2) (length-map (map raw_of parts) (is_written_expr timed)) ∙ two_written (ExprBy IsTime) (map raw_of parts) ts each two)
      (parts_written (ExprBy IsTime) (is_written_expr timed) raw_of (λ p. p.1) parts ts each)

  Layer : RawExpr-F RawExpr → Type 0
  Layer y = (t : Tree) → RowBy IsTime y t → expr_step timed (map-RawExpr RawExpr Bool (is_written_expr timed) y) ≡ true

  level : (y : RawExpr-F Piece) → Layer (map-RawExpr Piece RawExpr raw_of y)
  unfolding Layer
  level (RawExpr-F.Number word span) t h = refl
  level (RawExpr-F.Function function terms span) t h = refl
  level (RawExpr-F.Sum parts span) t h = many_written parts h.parts h.two h.are_parts
  level (RawExpr-F.Difference left right span) t h = and_true (is_written_expr timed left.0) (is_written_expr timed right.0) (left.1 h.left h.is_left) (right.1 h.right h.is_right)
  level (RawExpr-F.Negative part span) t h = part.1 h.part h.is_part
  level (RawExpr-F.Product parts span) t h = many_written parts h.parts h.two h.are_parts
  level (RawExpr-F.Quotient left right span) t h = and_true (is_written_expr timed left.0) (is_written_expr timed right.0) (left.1 h.left h.is_left) (right.1 h.right h.is_right)
  level (RawExpr-F.TotalTime span) t h = allowed span t h

  all_written : (e : RawExpr) → Claim e
  unfolding Layer
  all_written = ind-RawExpr Claim (λ y z is t h.
      fold-roll-RawExpr Bool (expr_step timed) y ∙ subst (λ v. Layer v) is (level z) t (subst (λ (T : Type 0). T) (expr_row IsTime y t) h))

pub expr_written : (e : RawExpr) (t : Tree) → IsExpr e t → is_written_expr false e ≡ true
expr_written e t h = all_written NoTime false (λ span t none. absurd none) e t h

pub metric_expr_written : (e : RawExpr) (t : Tree) → IsMetricExpr e t → is_written_expr true e ≡ true
metric_expr_written e t h = all_written IsTotalTime true (λ span t is. refl) e t h
