-- The top-level conjuncts of a condition all hold exactly where the condition does.
use Rattle.std.proofs.Common.{◌≡◌, ℕ, Bool, true, false, ◌&&◌, List, [], ◌∷◌, map, refl, sym, subst, ap, ap₂, ◌∙◌}
use Rattle.std.specs.List.{flat_map, list_all}
use Rattle.std.proofs.lemmas.List.Folds.{list_all-append}
use Rattle.mf_model.specs.declared.task.Cond.{Cond, fold-Cond}
use Rattle.mf_model.specs.declared.task.Cond.TheOpen.{Cond-F}
use Rattle.mf_model.specs.declared.task.Cond.TheViews.{roll-Cond}
use Rattle.mf_model.specs.declared.task.Cond.TheFolds.{ind-Cond, fold-roll-Cond, map-Cond}
use Rattle.mf_model.specs.Meaning.{is_yes}
use Rattle.mf_task.specs.declared.ground.GroundCond.{GroundCond}
use Rattle.mf_task.specs.declared.task.Task.{Task}
use Rattle.mf_task.specs.GroundMeaning.{ground_holds, ground_truth}
use Rattle.mf_task.specs.Grounding.{Conjuncts, Numbering, alone, conjuncts_step, ground_cond, ground_conjuncts, ground_step, whole_of}
use Rattle.mf_task.specs.Rows.{Sight}
use Rattle.mf_bridge.proofs.GroundTruth.{is_yes-all, of_conjunction}

and_true : (b : Bool) → (b && true) ≡ b
and_true true = refl
and_true false = refl

module _ (numbering : Numbering) (packed : Task) (sight : Sight) where
  -- the whole is the ground condition, and the parts hold where it does
  record AreConjuncts (conjuncts : Conjuncts) (own : List ℕ → GroundCond) : Type 0 where
    whole : conjuncts.whole ≡ own
    parts : (b : List ℕ) → list_all (ground_holds packed sight) (conjuncts.parts b) ≡ ground_holds packed sight (own b)

  abbrev Claim : Cond → Type 0
  Claim c = AreConjuncts (fold-Cond Conjuncts (conjuncts_step numbering) c) (ground_cond numbering c)

  abbrev Piece : Type 0
  Piece = (c : Cond) × Claim c

  abbrev conds : List Piece → List Cond
  conds ps = map (λ p. p.0) ps

  one_alone : (whole own : List ℕ → GroundCond) → whole ≡ own → AreConjuncts (alone whole) own
  one_alone whole own e = record {
    whole = e;
    parts = λ b. and_true (ground_holds packed sight (whole b)) ∙ ap (λ (f : List ℕ → GroundCond). ground_holds packed sight (f b)) e;
  }

  wholes : (ps : List Piece) → map whole_of (map (fold-Cond Conjuncts (conjuncts_step numbering)) (conds ps)) ≡ map (ground_cond numbering) (conds ps)
  wholes [] = refl
  wholes (p ∷ ps) =
      let first = p.1.whole in
      let rest = wholes ps in
      λ i. first i ∷ rest i

  all_parts : (ps : List Piece) (b : List ℕ) → list_all (ground_holds packed sight) (flat_map (λ part. part.parts b) (map (fold-Cond Conjuncts (conjuncts_step numbering)) (conds ps))) ≡ list_all is_yes (map (ground_truth packed sight) (map (λ part. part b) (map (ground_cond numbering) (conds ps))))
  all_parts [] b = refl
  all_parts (p ∷ ps) b =
      list_all-append (ground_holds packed sight) ((fold-Cond Conjuncts (conjuncts_step numbering) p.0).parts b) (flat_map (λ part. part.parts b) (map (fold-Cond Conjuncts (conjuncts_step numbering)) (conds ps)))
      ∙ ap₂ (λ (x y : Bool). x && y) (p.1.parts b) (all_parts ps b)

  Layer : Cond-F Cond → Type 0
  Layer x = AreConjuncts (conjuncts_step numbering (map-Cond Cond Conjuncts (fold-Cond Conjuncts (conjuncts_step numbering)) x)) (ground_step numbering (map-Cond Cond (List ℕ → GroundCond) (ground_cond numbering) x))

  level : (y : Cond-F Piece) → Layer (map-Cond Piece Cond (λ p. p.0) y)
  unfolding Layer
  level (Cond-F.Atom predicate terms) = one_alone _ _ refl
  level (Cond-F.Same left right) = one_alone _ _ refl
  level (Cond-F.Compare relation left right) = one_alone _ _ refl
  level (Cond-F.Not part) = one_alone _ _ (ap (λ (f : List ℕ → GroundCond). ground_step numbering (Cond-F.Not f)) part.1.whole)
  level (Cond-F.And parts) = record {
    whole = ap (λ (fs : List (List ℕ → GroundCond)). ground_step numbering (Cond-F.And fs)) (wholes parts);
    parts = λ b. all_parts parts b ∙ sym (ap is_yes (of_conjunction packed sight (map (λ part. part b) (map (ground_cond numbering) (conds parts)))) ∙ is_yes-all (map (ground_truth packed sight) (map (λ part. part b) (map (ground_cond numbering) (conds parts)))));
  }
  level (Cond-F.Or parts) = one_alone _ _ (ap (λ (fs : List (List ℕ → GroundCond)). ground_step numbering (Cond-F.Or fs)) (wholes parts))
  level (Cond-F.Imply left right) = one_alone _ _ (ap₂ (λ (f g : List ℕ → GroundCond). ground_step numbering (Cond-F.Imply f g)) left.1.whole right.1.whole)
  level (Cond-F.All variables part) = one_alone _ _ (ap (λ (f : List ℕ → GroundCond). ground_step numbering (Cond-F.All variables f)) part.1.whole)
  level (Cond-F.Any variables part) = one_alone _ _ (ap (λ (f : List ℕ → GroundCond). ground_step numbering (Cond-F.Any variables f)) part.1.whole)

  are_conjuncts : (c : Cond) → Claim c
  unfolding Layer
  are_conjuncts = ind-Cond Claim (λ x y is.
      let at_layer = subst (λ z. Layer z) is (level y) in
      subst (λ z. AreConjuncts z (ground_cond numbering (roll-Cond x))) (sym (fold-roll-Cond Conjuncts (conjuncts_step numbering) x))
      (subst (AreConjuncts (conjuncts_step numbering (map-Cond Cond Conjuncts (fold-Cond Conjuncts (conjuncts_step numbering)) x))) (sym (fold-roll-Cond (List ℕ → GroundCond) (ground_step numbering) x)) at_layer))

  pub conjuncts_hold : (c : Cond) (b : List ℕ) → list_all (ground_holds packed sight) (ground_conjuncts numbering c b) ≡ ground_holds packed sight (ground_cond numbering c b)
  conjuncts_hold c b = (are_conjuncts c).parts b
