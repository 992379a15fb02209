-- Conditions of the grammar are written as it says.
use Rattle.std.proofs.Common.{◌≡◌, Bool, true, false, List, [], map, inl, inr, refl, ◌∙◌, subst}
use Rattle.mf_model.proofs.Choices.{and_true}
use Rattle.mf_model.specs.declared.token.Span.{Span}
use Rattle.mf_model.specs.declared.tree.Tree.{Tree}
use Rattle.mf_model.specs.declared.form.RawCond.{RawCond}
use Rattle.mf_model.specs.declared.form.RawCond.TheOpen.{RawCond-F}
use Rattle.mf_model.specs.declared.form.RawCond.TheFolds.{ind-RawCond, fold-roll-RawCond, map-RawCond}
use Rattle.mf_model.specs.Forms.{Each}
use Rattle.mf_model.specs.Plain.{all_true}
use Rattle.mf_reader.specs.GrammarConditions.{IsGrouped, IsCond}
use Rattle.mf_reader.proofs.CondSound.{CondRow, cond_row_of}
use Rattle.mf_types.specs.Written.{is_written_expr, cond_step, is_written_cond}
use Rattle.mf_input.proofs.WrittenParts.{parts_written}
use Rattle.mf_input.proofs.WrittenExpressions.{expr_written}

-- parts behind `and`, or none in `()`
pub group_written : {X Y : Type 0} (Form : Y → Tree → Type 0) (written : Y → Bool) (view : X → Y) → ((x : X) (t : Tree) → Form (view x) t → written (view x) ≡ true) →
    (xs : List X) (span : Span) (t : Tree) → IsGrouped (Each Form (map view xs)) span t → all_true (map written (map view xs)) ≡ true
group_written Form written view h xs span t group = elim group [
  | inl row ↦ parts_written Form written view h xs row.0 row.2
  | inr none ↦ parts_written Form written view h xs [] none.1
]

abbrev Claim : RawCond → Type 0
Claim e = (t : Tree) → IsCond e t → is_written_cond e ≡ true

abbrev Piece : Type 0
Piece = (e : RawCond) × Claim e

abbrev raw_of : Piece → RawCond
raw_of p = p.0

Layer : RawCond-F RawCond → Type 0
Layer y = (t : Tree) → CondRow y t → cond_step (map-RawCond RawCond Bool is_written_cond y) ≡ true

level : (y : RawCond-F Piece) → Layer (map-RawCond Piece RawCond raw_of y)
unfolding Layer
level (RawCond-F.Atom predicate terms span) t h = refl
level (RawCond-F.Same left right span) t h = refl
level (RawCond-F.Compare relation left right span) t h =
    and_true (is_written_expr false left) (is_written_expr false right) (expr_written left h.left h.is_left) (expr_written right h.right h.is_right)
level (RawCond-F.Not part span) t h = part.1 h.part h.is_part
level (RawCond-F.And parts span) t h = group_written IsCond is_written_cond raw_of (λ p. p.1) parts span t h
level (RawCond-F.Or parts span) t h = parts_written IsCond is_written_cond raw_of (λ p. p.1) parts h.0 h.2
level (RawCond-F.Imply left right span) t h = and_true (is_written_cond left.0) (is_written_cond right.0) (left.1 h.left h.is_left) (right.1 h.right h.is_right)
level (RawCond-F.All variables part span) t h = part.1 h.right h.is_right
level (RawCond-F.Any variables part span) t h = part.1 h.right h.is_right

pub cond_written : (e : RawCond) (t : Tree) → IsCond e t → is_written_cond e ≡ true
unfolding Layer
cond_written = ind-RawCond Claim (λ y z is t h. fold-roll-RawCond Bool cond_step y ∙ subst (λ v. Layer v) is (level z) t (cond_row_of y t h))
