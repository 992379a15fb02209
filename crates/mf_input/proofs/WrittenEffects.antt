-- Effects of the grammar are written as it says.
use Rattle.std.proofs.Common.{◌≡◌, Bool, true, ◌&&◌, refl, ◌∙◌, subst}
use Rattle.mf_model.proofs.Choices.{and_true}
use Rattle.mf_model.specs.declared.token.Span.{Span}
use Rattle.mf_model.specs.declared.tree.Tree.{Tree}
use Rattle.mf_model.specs.declared.form.RawCond.{RawCond}
use Rattle.mf_model.specs.declared.form.RawEffect.{RawEffect}
use Rattle.mf_model.specs.declared.form.RawEffect.TheOpen.{RawEffect-F}
use Rattle.mf_model.specs.declared.form.RawEffect.TheFolds.{ind-RawEffect, fold-roll-RawEffect, map-RawEffect}
use Rattle.mf_reader.specs.GrammarEffects.{NoWhen, IsWhen, IsInnerEffect, IsEffect}
use Rattle.mf_reader.proofs.EffectSound.{EffectBy, EffectRowBy, effect_row}
use Rattle.mf_types.specs.Written.{is_written_cond, effect_step, is_written_effect}
use Rattle.mf_input.proofs.WrittenExpressions.{expr_written}
use Rattle.mf_input.proofs.WrittenConditions.{group_written, cond_written}

module _ (IsBehind : RawCond → RawEffect → Span → Tree → Type 0)
    (behind_written : (condition : RawCond) (part : RawEffect) (span : Span) (t : Tree) → IsBehind condition part span t → (is_written_cond condition && is_written_effect part) ≡ true) where
  abbrev Claim : RawEffect → Type 0
  Claim e = (t : Tree) → EffectBy IsBehind e t → is_written_effect e ≡ true

  abbrev Piece : Type 0
  Piece = (e : RawEffect) × Claim e

  abbrev raw_of : Piece → RawEffect
  raw_of p = p.0

  Layer : RawEffect-F RawEffect → Type 0
  Layer y = (t : Tree) → EffectRowBy IsBehind y t → effect_step (map-RawEffect RawEffect Bool is_written_effect y) ≡ true

  level : (y : RawEffect-F Piece) → Layer (map-RawEffect Piece RawEffect raw_of y)
  unfolding Layer
  level (RawEffect-F.Add predicate terms span) t h = refl
  level (RawEffect-F.Delete predicate terms span) t h = refl
  level (RawEffect-F.Change op function terms value span) t h = expr_written value h.right h.is_right
  level (RawEffect-F.Group parts span) t h = group_written (EffectBy IsBehind) is_written_effect raw_of (λ p. p.1) parts span t h
  level (RawEffect-F.Each variables part span) t h = part.1 h.right h.is_right
  level (RawEffect-F.When condition part span) t h = behind_written condition part.0 span t h

  all_written : (e : RawEffect) → Claim e
  unfolding Layer
  all_written = ind-RawEffect Claim (λ y z is t h.
      fold-roll-RawEffect Bool effect_step y ∙ subst (λ v. Layer v) is (level z) t (subst (λ (T : Type 0). T) (effect_row IsBehind y t) h))

inner_written : (e : RawEffect) (t : Tree) → IsInnerEffect e t → is_written_effect e ≡ true
inner_written e t h = all_written NoWhen (λ condition part span t none. absurd none) e t h

when_written : (condition : RawCond) (part : RawEffect) (span : Span) (t : Tree) → IsWhen condition part span t → (is_written_cond condition && is_written_effect part) ≡ true
when_written condition part span t h =
    and_true (is_written_cond condition) (is_written_effect part) (cond_written condition h.left h.is_left) (inner_written part h.right h.is_right)

pub effect_written : (e : RawEffect) (t : Tree) → IsEffect e t → is_written_effect e ≡ true
effect_written e t h = all_written IsWhen when_written e t h
