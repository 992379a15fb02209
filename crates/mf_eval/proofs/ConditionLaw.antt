-- The truth of a condition is the exact one, or `Wide` exactly where some subexpression is too wide.
use Rattle.std.proofs.Common.{◌≡◌, ℕ, Bool, false, ◌||◌, List, [], ◌∷◌, ◌++◌, map, Option, Result, Ok, refl, subst, sym, ap, ◌∙◌}
use Rattle.std.proofs.Math.Bool.{or-false}
use Rattle.std.specs.List.{list_any, flat_map}
use Rattle.mf_fraction.specs.Exact.{Number}
use Rattle.mf_fraction.specs.declared.faults.Wide.{Wide}
use Rattle.mf_model.specs.declared.task.Cond.{Cond}
use Rattle.mf_model.specs.declared.task.Cond.TheOpen.{Cond-F}
use Rattle.mf_model.specs.declared.task.Cond.TheFolds.{ind-Cond, fold-roll-Cond, map-Cond}
use Rattle.mf_model.specs.declared.task.Cond.TheViews.{roll-Cond}
use Rattle.mf_model.specs.declared.truth.Truth.{Truth}
use Rattle.mf_model.specs.Meaning.{is_yes, compared, holds_in, holds_step, not_of, or_of, truth_in, value_of}
use Rattle.mf_model.specs.Objects.{bindings, having}
use Rattle.mf_model.specs.Views.{Look}
use Rattle.mf_eval.specs.declared.truth.Connective.{Connective}
use Rattle.mf_eval.specs.declared.truth.Connective.TheVariants.{And, Or}
use Rattle.mf_eval.specs.Answers.{answered, ◌>>=◌}
use Rattle.mf_eval.specs.Checked.{kept_value}
use Rattle.mf_eval.specs.Judged.{met, judged, judged_all, judged_quantifier, judged_step}
use Rattle.mf_eval.specs.Width.{condition_step, is_condition_wide, is_wide}
use Rattle.mf_eval.proofs.ExpressionLaw.{kept_value-is}
use Rattle.mf_eval.proofs.Parts.{fused, fused_any}
use Rattle.mf_eval.proofs.Truths.{joined, joined-and, joined-flat_map, joined-or, judged_all-is, list_any-flat_map, then_one, then_two, connected-neutral}

-- quantifiers
module _ (objects : List (List ℕ)) (c : Connective) (r : List ℕ → Result Truth Wide) (w : List ℕ → Bool) (v : List ℕ → Truth) (is : (b : List ℕ) → r b ≡ answered (w b) (v b)) where
  pub judged_quantifier-is : (variables : List (List ℕ)) (b : List ℕ) → judged_quantifier objects c r variables b ≡ answered (list_any w (bindings objects variables b)) (joined c (map v (bindings objects variables b)))
  judged_quantifier-is [] b =
      is b ∙ ap (λ (x : Bool). answered x (v b)) (sym (or-false (w b))) ∙ ap (λ (t : Truth). answered (w b || false) t) (sym (connected-neutral c (v b)))
  judged_quantifier-is (types ∷ others) b =
      let g = λ (o : ℕ). bindings objects others (b ++ o ∷ []) in
      let numbers = having types 0 objects in
      judged_all-is c (λ (o : ℕ). judged_quantifier objects c r others (b ++ o ∷ [])) (λ (o : ℕ). list_any w (g o)) (λ (o : ℕ). joined c (map v (g o))) (λ o. judged_quantifier-is others (b ++ o ∷ [])) numbers
      ∙ ap (λ (x : Bool). answered x (joined c (map (λ (o : ℕ). joined c (map v (g o))) numbers))) (list_any-flat_map w g numbers)
      ∙ ap (λ (t : Truth). answered (list_any w (flat_map g numbers)) t) (joined-flat_map c v g numbers)

abbrev pub Claim : List (List ℕ) → Look → Cond → Type 0
Claim objects look e = (b : List ℕ) → judged objects look e b ≡ answered (is_condition_wide objects look e b) (truth_in objects look e b)

abbrev Piece : List (List ℕ) → Look → Type 0
Piece objects look = (e : Cond) × Claim objects look e

module _ (objects : List (List ℕ)) (look : Look) where
  parts_are : (c : Connective) (ps : List (Piece objects look)) (b : List ℕ) → judged_all c (map (λ part. part b) (map (judged objects look) (map (λ p. p.0) ps))) ≡ answered (list_any (λ part. part b) (map (is_condition_wide objects look) (map (λ p. p.0) ps))) (joined c (map (λ part. part b) (map (truth_in objects look) (map (λ p. p.0) ps))))
  parts_are c ps b =
      let first : Piece objects look → Cond = λ p. p.0 in
      ap (λ (l : List (Result Truth Wide)). judged_all c l) (fused first (judged objects look) b ps)
      ∙ judged_all-is c (λ (p : Piece objects look). judged objects look p.0 b) (λ (p : Piece objects look). is_condition_wide objects look p.0 b) (λ (p : Piece objects look). truth_in objects look p.0 b) (λ p. p.1 b) ps
      ∙ ap (λ (x : Bool). answered x (joined c (map (λ (p : Piece objects look). truth_in objects look p.0 b) ps))) (sym (fused_any first (is_condition_wide objects look) b ps))
      ∙ ap (λ (l : List Truth). answered (list_any (λ part. part b) (map (is_condition_wide objects look) (map first ps))) (joined c l)) (sym (fused first (truth_in objects look) b ps))

  Layer : Cond-F Cond → Type 0
  Layer x = (b : List ℕ) → judged_step objects look (map-Cond Cond (List ℕ → Result Truth Wide) (judged objects look) x) b ≡ answered (condition_step objects look (map-Cond Cond (List ℕ → Bool) (is_condition_wide objects look) x) b) (holds_step objects look (map-Cond Cond (List ℕ → Truth) (truth_in objects look) x) b)

  level : (y : Cond-F (Piece objects look)) → Layer (map-Cond (Piece objects look) Cond (λ p. p.0) y)
  unfolding Layer
  level (Cond-F.Atom predicate terms) b = refl
  level (Cond-F.Same left right) b = refl
  level (Cond-F.Compare relation left right) b =
      ap (λ (q : Result (Option Number) Wide). q >>= λ x. kept_value look right b >>= λ y. Ok (compared relation x y)) (kept_value-is look left b)
      ∙ ap (λ (q : Result (Option Number) Wide). answered (is_wide look left b) (value_of look left b) >>= λ x. q >>= λ y. Ok (compared relation x y)) (kept_value-is look right b)
      ∙ then_two (compared relation) (is_wide look left b) (is_wide look right b) (value_of look left b) (value_of look right b)
  level (Cond-F.Not part) b =
      ap (λ (q : Result Truth Wide). q >>= λ t. Ok (not_of t)) (part.1 b) ∙ then_one not_of (is_condition_wide objects look part.0 b) (truth_in objects look part.0 b)
  level (Cond-F.And parts) b = parts_are And parts b ∙ ap (λ (t : Truth). answered (list_any (λ part. part b) (map (is_condition_wide objects look) (map (λ p. p.0) parts))) t) (joined-and (map (λ part. part b) (map (truth_in objects look) (map (λ p. p.0) parts))))
  level (Cond-F.Or parts) b = parts_are Or parts b ∙ ap (λ (t : Truth). answered (list_any (λ part. part b) (map (is_condition_wide objects look) (map (λ p. p.0) parts))) t) (joined-or (map (λ part. part b) (map (truth_in objects look) (map (λ p. p.0) parts))))
  level (Cond-F.Imply left right) b =
      ap (λ (q : Result Truth Wide). q >>= λ t. judged objects look right.0 b >>= λ u. Ok (or_of (not_of t) u)) (left.1 b)
      ∙ ap (λ (q : Result Truth Wide). answered (is_condition_wide objects look left.0 b) (truth_in objects look left.0 b) >>= λ t. q >>= λ u. Ok (or_of (not_of t) u)) (right.1 b)
      ∙ then_two (λ t u. or_of (not_of t) u) (is_condition_wide objects look left.0 b) (is_condition_wide objects look right.0 b) (truth_in objects look left.0 b) (truth_in objects look right.0 b)
  level (Cond-F.All variables part) b =
      judged_quantifier-is objects And (judged objects look part.0) (is_condition_wide objects look part.0) (truth_in objects look part.0) part.1 variables b
      ∙ ap (λ (t : Truth). answered (list_any (is_condition_wide objects look part.0) (bindings objects variables b)) t) (joined-and (map (truth_in objects look part.0) (bindings objects variables b)))
  level (Cond-F.Any variables part) b =
      judged_quantifier-is objects Or (judged objects look part.0) (is_condition_wide objects look part.0) (truth_in objects look part.0) part.1 variables b
      ∙ ap (λ (t : Truth). answered (list_any (is_condition_wide objects look part.0) (bindings objects variables b)) t) (joined-or (map (truth_in objects look part.0) (bindings objects variables b)))

  pub judged-is : (e : Cond) → Claim objects look e
  unfolding Layer
  judged-is = ind-Cond (Claim objects look) (λ x y is b.
      let at_layer = subst (λ z. Layer z) is (level y) b in
      ap (λ (f : List ℕ → Result Truth Wide). f b) (fold-roll-Cond (List ℕ → Result Truth Wide) (judged_step objects look) x)
      ∙ at_layer
      ∙ sym (ap (λ (f : List ℕ → Bool). answered (f b) (truth_in objects look (roll-Cond x) b)) (fold-roll-Cond (List ℕ → Bool) (condition_step objects look) x)
      ∙ ap (λ (f : List ℕ → Truth). answered (condition_step objects look (map-Cond Cond (List ℕ → Bool) (is_condition_wide objects look) x) b) (f b)) (fold-roll-Cond (List ℕ → Truth) (holds_step objects look) x)))

pub met-is : (objects : List (List ℕ)) (look : Look) (e : Cond) (b : List ℕ) → met objects look e b ≡ answered (is_condition_wide objects look e b) (holds_in objects look e b)
met-is objects look e b =
    ap (λ (q : Result Truth Wide). q >>= λ t. Ok (is_yes t)) (judged-is objects look e b) ∙ then_one is_yes (is_condition_wide objects look e b) (truth_in objects look e b)
