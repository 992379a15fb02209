-- Two states that differ in the values of some functions alone tell the same of all that does not read these functions.
use Rattle.std.proofs.Common.{◌≡◌, ℕ, Bool, true, false, not, ◌||◌, if◌then◌else◌, nat_eq, List, [], ◌∷◌, map, Option, refl, sym, subst, ap, ◌∙◌}
use Rattle.std.specs.List.{flat_map, list_all, list_any}
use Rattle.std.proofs.lemmas.Bool.{and_parts, eq-eqb, false≢true}
use Rattle.mf_fraction.specs.Exact.{Number}
use Rattle.mf_model.specs.declared.task.Expr.{Expr}
use Rattle.mf_model.specs.declared.task.Expr.TheOpen.{Expr-F}
use Rattle.mf_model.specs.declared.task.Expr.TheFolds.{ind-Expr, fold-roll-Expr, map-Expr}
use Rattle.mf_model.specs.declared.task.Cond.{Cond}
use Rattle.mf_model.specs.declared.task.Cond.TheOpen.{Cond-F}
use Rattle.mf_model.specs.declared.task.Cond.TheFolds.{ind-Cond, fold-roll-Cond, map-Cond}
use Rattle.mf_model.specs.declared.task.Effect.{Effect}
use Rattle.mf_model.specs.declared.task.Effect.TheOpen.{Effect-F}
use Rattle.mf_model.specs.declared.task.Effect.TheFolds.{ind-Effect, fold-roll-Effect, map-Effect}
use Rattle.mf_model.specs.declared.truth.Truth.{Truth}
use Rattle.mf_model.specs.Application.{Change, Changed, firing_of, firing_step}
use Rattle.mf_model.specs.Expressions.{every_side, every_side_step, every_change, every_change_step, reads, reads_step}
use Rattle.mf_model.specs.Functions.{avoids}
use Rattle.mf_model.specs.Meaning.{all_of, any_of, compared, is_yes, minus, negated, not_of, or_of, over, product_of_all, sum_of_all, value_of, value_step, truth_in, holds_step, truth_of}
use Rattle.mf_model.specs.Objects.{bindings}
use Rattle.mf_model.specs.Views.{Look, objects_of}

-- the same atoms, and the same values but for some functions
pub record AgreesBeside (hidden : ℕ → Bool) (one other : Look) : Type 0 where
  pub atom : one.atom ≡ other.atom
  pub value : (function : ℕ) (objects : List ℕ) → hidden function ≡ false → one.value function objects ≡ other.value function objects
  pub steps : one.steps ≡ other.steps

not_or : (a b : Bool) → not (a || b) ≡ true → (not a ≡ true) × (not b ≡ true)
not_or true b e = absurd (false≢true e)
not_or false b e = (refl, e)

visible : (hidden : ℕ → Bool) (function : ℕ) → ((f : ℕ) → hidden f ≡ true → not (nat_eq f function) ≡ true) → hidden function ≡ false
visible hidden function avoided = seen (hidden function) refl
  where
    seen : (b : Bool) → hidden function ≡ b → b ≡ false
    seen false e = refl
    seen true e =
        let own : not (nat_eq function function) ≡ false = ap not (eq-eqb function function refl) in
        absurd (false≢true (sym own ∙ avoided function e))

module _ (hidden : ℕ → Bool) (one other : Look) (agree : AgreesBeside hidden one other) where
  -- expressions

  abbrev ReadsNone : Expr → Type 0
  ReadsNone e = (f : ℕ) → hidden f ≡ true → avoids f e ≡ true

  abbrev SameValue : Expr → Type 0
  SameValue e = ReadsNone e → value_of one e ≡ value_of other e

  abbrev ExprPart : Type 0
  ExprPart = (e : Expr) × SameValue e

  values_agree : (ps : List ExprPart) → ((f : ℕ) → hidden f ≡ true → not (list_any (λ part. part) (map (reads (nat_eq f)) (map (λ p. p.0) ps))) ≡ true) → map (value_of one) (map (λ p. p.0) ps) ≡ map (value_of other) (map (λ p. p.0) ps)
  values_agree [] avoided = refl
  values_agree (p ∷ ps) avoided =
      let first = p.1 (λ f h. (not_or (reads (nat_eq f) p.0) (list_any (λ part. part) (map (reads (nat_eq f)) (map (λ p. p.0) ps))) (avoided f h)).0) in
      let rest = values_agree ps (λ f h. (not_or (reads (nat_eq f) p.0) (list_any (λ part. part) (map (reads (nat_eq f)) (map (λ p. p.0) ps))) (avoided f h)).1) in
      λ i. first i ∷ rest i

  ExprLayer : Expr-F Expr → Type 0
  ExprLayer x = ((f : ℕ) → hidden f ≡ true → not (reads_step (nat_eq f) (map-Expr Expr Bool (reads (nat_eq f)) x)) ≡ true) → value_step one (map-Expr Expr (List ℕ → Option Number) (value_of one) x) ≡ value_step other (map-Expr Expr (List ℕ → Option Number) (value_of other) x)

  expr_level : (y : Expr-F ExprPart) → ExprLayer (map-Expr ExprPart Expr (λ p. p.0) y)
  unfolding ExprLayer
  expr_level (Expr-F.Number number) avoided = refl
  expr_level (Expr-F.Function function terms) avoided =
      let seen = visible hidden function avoided in
      λ i b. agree.value function (objects_of b terms) seen i
  expr_level (Expr-F.Sum parts) avoided =
      let same = values_agree parts avoided in
      λ i b. sum_of_all (map (λ part. part b) (same i))
  expr_level (Expr-F.Difference left right) avoided =
      let at_left = left.1 (λ f h. (not_or (reads (nat_eq f) left.0) (reads (nat_eq f) right.0) (avoided f h)).0) in
      let at_right = right.1 (λ f h. (not_or (reads (nat_eq f) left.0) (reads (nat_eq f) right.0) (avoided f h)).1) in
      λ i b. minus (at_left i b) (at_right i b)
  expr_level (Expr-F.Negative part) avoided =
      let same = part.1 avoided in
      λ i b. negated (same i b)
  expr_level (Expr-F.Product parts) avoided =
      let same = values_agree parts avoided in
      λ i b. product_of_all (map (λ part. part b) (same i))
  expr_level (Expr-F.Quotient left right) avoided =
      let at_left = left.1 (λ f h. (not_or (reads (nat_eq f) left.0) (reads (nat_eq f) right.0) (avoided f h)).0) in
      let at_right = right.1 (λ f h. (not_or (reads (nat_eq f) left.0) (reads (nat_eq f) right.0) (avoided f h)).1) in
      λ i b. over (at_left i b) (at_right i b)
  expr_level Expr-F.TotalTime avoided = ap (λ steps b. value_step (record one { steps = steps }) Expr-F.TotalTime b) agree.steps

  pub value_agrees : (e : Expr) → SameValue e
  unfolding ExprLayer
  value_agrees = ind-Expr SameValue (λ x y is avoided.
      let at_layer = subst (λ z. ExprLayer z) is (expr_level y) (λ f h. ap not (sym (fold-roll-Expr Bool (reads_step (nat_eq f)) x)) ∙ avoided f h) in
      fold-roll-Expr (List ℕ → Option Number) (value_step one) x ∙ at_layer ∙ sym (fold-roll-Expr (List ℕ → Option Number) (value_step other) x))

  -- conditions

  abbrev TestsNone : Cond → Type 0
  TestsNone c = (f : ℕ) → hidden f ≡ true → every_side (avoids f) c ≡ true

  abbrev SameTruth : List (List ℕ) → Cond → Type 0
  SameTruth objects c = TestsNone c → truth_in objects one c ≡ truth_in objects other c

  abbrev CondPart : List (List ℕ) → Type 0
  CondPart objects = (c : Cond) × SameTruth objects c

  truths_agree : (objects : List (List ℕ)) (ps : List (CondPart objects)) → ((f : ℕ) → hidden f ≡ true → list_all (λ part. part) (map (every_side (avoids f)) (map (λ p. p.0) ps)) ≡ true) → map (truth_in objects one) (map (λ p. p.0) ps) ≡ map (truth_in objects other) (map (λ p. p.0) ps)
  truths_agree objects [] avoided = refl
  truths_agree objects (p ∷ ps) avoided =
      let first = p.1 (λ f h. (and_parts (every_side (avoids f) p.0) (list_all (λ part. part) (map (every_side (avoids f)) (map (λ p. p.0) ps))) (avoided f h)).0) in
      let rest = truths_agree objects ps (λ f h. (and_parts (every_side (avoids f) p.0) (list_all (λ part. part) (map (every_side (avoids f)) (map (λ p. p.0) ps))) (avoided f h)).1) in
      λ i. first i ∷ rest i

  CondLayer : List (List ℕ) → Cond-F Cond → Type 0
  CondLayer objects x = ((f : ℕ) → hidden f ≡ true → every_side_step (avoids f) (map-Cond Cond Bool (every_side (avoids f)) x) ≡ true) → holds_step objects one (map-Cond Cond (List ℕ → Truth) (truth_in objects one) x) ≡ holds_step objects other (map-Cond Cond (List ℕ → Truth) (truth_in objects other) x)

  cond_level : (objects : List (List ℕ)) (y : Cond-F (CondPart objects)) → CondLayer objects (map-Cond (CondPart objects) Cond (λ p. p.0) y)
  unfolding CondLayer
  cond_level objects (Cond-F.Atom predicate terms) avoided =
      let same = agree.atom in
      λ i b. truth_of (same i predicate (objects_of b terms))
  cond_level objects (Cond-F.Same left right) avoided = refl
  cond_level objects (Cond-F.Compare relation left right) avoided =
      let at_left = value_agrees left (λ f h. (and_parts (avoids f left) (avoids f right) (avoided f h)).0) in
      let at_right = value_agrees right (λ f h. (and_parts (avoids f left) (avoids f right) (avoided f h)).1) in
      λ i b. compared relation (at_left i b) (at_right i b)
  cond_level objects (Cond-F.Not part) avoided =
      let same = part.1 avoided in
      λ i b. not_of (same i b)
  cond_level objects (Cond-F.And parts) avoided =
      let same = truths_agree objects parts avoided in
      λ i b. all_of (map (λ part. part b) (same i))
  cond_level objects (Cond-F.Or parts) avoided =
      let same = truths_agree objects parts avoided in
      λ i b. any_of (map (λ part. part b) (same i))
  cond_level objects (Cond-F.Imply left right) avoided =
      let at_left = left.1 (λ f h. (and_parts (every_side (avoids f) left.0) (every_side (avoids f) right.0) (avoided f h)).0) in
      let at_right = right.1 (λ f h. (and_parts (every_side (avoids f) left.0) (every_side (avoids f) right.0) (avoided f h)).1) in
      λ i b. or_of (not_of (at_left i b)) (at_right i b)
  cond_level objects (Cond-F.All variables part) avoided =
      let same = part.1 avoided in
      λ i b. all_of (map (same i) (bindings objects variables b))
  cond_level objects (Cond-F.Any variables part) avoided =
      let same = part.1 avoided in
      λ i b. any_of (map (same i) (bindings objects variables b))

  pub truth_agrees : (objects : List (List ℕ)) (c : Cond) → SameTruth objects c
  unfolding CondLayer
  truth_agrees objects = ind-Cond (SameTruth objects) (λ x y is avoided.
      let at_layer = subst (λ z. CondLayer objects z) is (cond_level objects y) (λ f h. sym (fold-roll-Cond Bool (every_side_step (avoids f)) x) ∙ avoided f h) in
      fold-roll-Cond (List ℕ → Truth) (holds_step objects one) x ∙ at_layer ∙ sym (fold-roll-Cond (List ℕ → Truth) (holds_step objects other) x))

  -- effects

  abbrev avoided_by : ℕ → Effect → Bool
  avoided_by f = every_change (λ op changed value. avoids f value) (every_side (avoids f))

  abbrev UsesNone : Effect → Type 0
  UsesNone e = (f : ℕ) → hidden f ≡ true → avoided_by f e ≡ true

  abbrev SameChanges : List (List ℕ) → Effect → Type 0
  SameChanges objects e = UsesNone e → firing_of objects one e ≡ firing_of objects other e

  abbrev EffectPart : List (List ℕ) → Type 0
  EffectPart objects = (e : Effect) × SameChanges objects e

  firings_agree : (objects : List (List ℕ)) (ps : List (EffectPart objects)) → ((f : ℕ) → hidden f ≡ true → list_all (λ part. part) (map (avoided_by f) (map (λ p. p.0) ps)) ≡ true) → map (firing_of objects one) (map (λ p. p.0) ps) ≡ map (firing_of objects other) (map (λ p. p.0) ps)
  firings_agree objects [] avoided = refl
  firings_agree objects (p ∷ ps) avoided =
      let first = p.1 (λ f h. (and_parts (avoided_by f p.0) (list_all (λ part. part) (map (avoided_by f) (map (λ p. p.0) ps))) (avoided f h)).0) in
      let rest = firings_agree objects ps (λ f h. (and_parts (avoided_by f p.0) (list_all (λ part. part) (map (avoided_by f) (map (λ p. p.0) ps))) (avoided f h)).1) in
      λ i. first i ∷ rest i

  EffectLayer : List (List ℕ) → Effect-F Effect → Type 0
  EffectLayer objects x = ((f : ℕ) → hidden f ≡ true → every_change_step (λ op changed value. avoids f value) (every_side (avoids f)) (map-Effect Effect Bool (avoided_by f) x) ≡ true) → firing_step objects one (map-Effect Effect (List ℕ → List Change) (firing_of objects one) x) ≡ firing_step objects other (map-Effect Effect (List ℕ → List Change) (firing_of objects other) x)

  effect_level : (objects : List (List ℕ)) (y : Effect-F (EffectPart objects)) → EffectLayer objects (map-Effect (EffectPart objects) Effect (λ p. p.0) y)
  unfolding EffectLayer
  effect_level objects (Effect-F.Add predicate terms) avoided = refl
  effect_level objects (Effect-F.Delete predicate terms) avoided = refl
  effect_level objects (Effect-F.Change op function terms value) avoided =
      let same = value_agrees value avoided in
      λ i b. Changed op function (objects_of b terms) (same i b) ∷ []
  effect_level objects (Effect-F.Group parts) avoided =
      let same = firings_agree objects parts avoided in
      λ i b. flat_map (λ part. part b) (same i)
  effect_level objects (Effect-F.Each variables part) avoided =
      let same = part.1 avoided in
      λ i b. flat_map (same i) (bindings objects variables b)
  effect_level objects (Effect-F.When condition part) avoided =
      let met = truth_agrees objects condition (λ f h. (and_parts (every_side (avoids f) condition) (avoided_by f part.0) (avoided f h)).0) in
      let same = part.1 (λ f h. (and_parts (every_side (avoids f) condition) (avoided_by f part.0) (avoided f h)).1) in
      λ i b. if is_yes (met i b) then same i b else []

  pub firing_agrees : (objects : List (List ℕ)) (e : Effect) → SameChanges objects e
  unfolding EffectLayer
  firing_agrees objects = ind-Effect (SameChanges objects) (λ x y is avoided.
      let at_layer = subst (λ z. EffectLayer objects z) is (effect_level objects y) (λ f h. sym (fold-roll-Effect Bool (every_change_step (λ op changed value. avoids f value) (every_side (avoids f))) x) ∙ avoided f h) in
      fold-roll-Effect (List ℕ → List Change) (firing_step objects one) x ∙ at_layer ∙ sym (fold-roll-Effect (List ℕ → List Change) (firing_step objects other) x))
