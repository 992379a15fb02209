-- In an effect of the grammar no `when` effect occurs in another.
use Rattle.std.proofs.Common.{ℕ, ◌+◌, ◌≤◌, List, [], ◌∷◌, map, sym, subst, arith, inl, inr}
use Rattle.mf_model.specs.declared.token.Span.{Span}
use Rattle.mf_model.specs.declared.tree.Tree.{Tree}
use Rattle.mf_model.specs.declared.form.RawCond.{RawCond}
use Rattle.mf_model.specs.declared.form.RawEffect.{RawEffect}
use Rattle.mf_model.specs.declared.form.RawEffect.TheOpen.{RawEffect-F}
use Rattle.mf_model.specs.declared.form.RawEffect.TheFolds.{ind-RawEffect, fold-roll-RawEffect, map-RawEffect}
use Rattle.mf_model.specs.Forms.{Each}
use Rattle.mf_model.specs.Trees.{greatest}
use Rattle.mf_reader.specs.GrammarEffects.{NoWhen, IsWhen, IsInnerEffect, IsEffect}
use Rattle.mf_reader.proofs.EffectSound.{EffectBy, EffectRowBy, effect_row}
use Rattle.mf_types.specs.Written.{when_step, when_depth}

module _ (IsBehind : RawCond → RawEffect → Span → Tree → Type 0) (most : ℕ)
    (behind_flat : (condition : RawCond) (part : RawEffect) (span : Span) (t : Tree) → IsBehind condition part span t → 1 + when_depth part ≤ most) where
  abbrev Claim : RawEffect → Type 0
  Claim e = (t : Tree) → EffectBy IsBehind e t → when_depth e ≤ most

  abbrev Piece : Type 0
  Piece = (e : RawEffect) × Claim e

  abbrev raw_of : Piece → RawEffect
  raw_of p = p.0

  parts_flat : (ps : List Piece) (ts : List Tree) → Each (EffectBy IsBehind) (map raw_of ps) ts → greatest (map when_depth (map raw_of ps)) ≤ most
  parts_flat [] ts each = omega arith
  parts_flat (p ∷ ps) [] each = absurd each
  parts_flat (p ∷ ps) (t ∷ ts) each =
      let here : when_depth p.0 ≤ most = p.1 t each.0 in
      let others = parts_flat ps ts each.1 in
      omega (arith, here, others)

  Layer : RawEffect-F RawEffect → Type 0
  Layer y = (t : Tree) → EffectRowBy IsBehind y t → when_step (map-RawEffect RawEffect ℕ when_depth y) ≤ most

  level : (y : RawEffect-F Piece) → Layer (map-RawEffect Piece RawEffect raw_of y)
  unfolding Layer
  level (RawEffect-F.Add predicate terms span) t h = omega arith
  level (RawEffect-F.Delete predicate terms span) t h = omega arith
  level (RawEffect-F.Change op function terms value span) t h = omega arith
  level (RawEffect-F.Group parts span) t h = elim h [
    | inl row ↦ parts_flat parts row.0 row.2
    | inr none ↦ parts_flat parts [] none.1
  ]
  level (RawEffect-F.Each variables part span) t h = part.1 h.right h.is_right
  level (RawEffect-F.When condition part span) t h = behind_flat condition part.0 span t h

  all_flat : (e : RawEffect) → Claim e
  unfolding Layer
  all_flat = ind-RawEffect Claim (λ y z is t h.
      subst (λ (n : ℕ). n ≤ most) (sym (fold-roll-RawEffect ℕ when_step y)) (subst (λ v. Layer v) is (level z) t (subst (λ (T : Type 0). T) (effect_row IsBehind y t) h)))

inner_flat : (e : RawEffect) (t : Tree) → IsInnerEffect e t → when_depth e ≤ 0
inner_flat e t h = all_flat NoWhen 0 (λ condition part span t none. absurd none) e t h

when_flat : (condition : RawCond) (part : RawEffect) (span : Span) (t : Tree) → IsWhen condition part span t → 1 + when_depth part ≤ 1
when_flat condition part span t h = let none : when_depth part ≤ 0 = inner_flat part h.right h.is_right in omega (arith, none)

pub effect_flat : (e : RawEffect) (t : Tree) → IsEffect e t → when_depth e ≤ 1
effect_flat e t h = all_flat IsWhen 1 when_flat e t h
