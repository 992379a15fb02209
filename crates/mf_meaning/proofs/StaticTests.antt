-- Where a condition holds its static tests hold at the start, in each state whose static atoms are those of the start.
use Rattle.std.proofs.Common.{◌≡◌, ℕ, Bool, true, false, ◌||◌, nat_eq, nat_lt, List, [], ◌∷◌, map, length, refl, sym, subst, ◌∙◌}
use Rattle.std.specs.List.{flat_map, list_all}
use Rattle.std.proofs.lemmas.Bool.{and_from, and_parts, not_from_false, or_right}
use Rattle.std.proofs.lemmas.List.Folds.{list_all-append}
use Rattle.mf_model.specs.declared.task.Cond.{Cond, fold-Cond}
use Rattle.mf_model.specs.declared.task.Cond.TheOpen.{Cond-F}
use Rattle.mf_model.specs.declared.task.Cond.TheFolds.{ind-Cond, fold-roll-Cond, map-Cond}
use Rattle.mf_model.specs.declared.task.Cond.TheViews.{roll-Cond}
use Rattle.mf_model.specs.declared.task.Term.{Term}
use Rattle.mf_model.specs.declared.truth.Truth.{Truth}
use Rattle.mf_model.specs.declared.truth.Truth.TheVariants.{Yes, No, Neither}
use Rattle.mf_model.specs.LiveInstances.{StaticTest, StaticTests, depth_of, is_live_front, passes, tests_step}
use Rattle.mf_model.specs.Meaning.{all_of, and_of, holds_step, is_yes, not_of, truth_in, truth_of}
use Rattle.mf_model.specs.Views.{Look, object_of, objects_of}

-- truths

yes_is : (b : Bool) → truth_of b ≡ Yes → b ≡ true
yes_is true e = refl
yes_is false e = cc

no_is : (b : Bool) → truth_of b ≡ No → b ≡ false
no_is true e = cc
no_is false e = refl

negated_no : (t : Truth) → not_of t ≡ Yes → t ≡ No
negated_no Yes e = cc
negated_no No e = refl
negated_no Neither e = cc

both_yes : (t u : Truth) → and_of t u ≡ Yes → (t ≡ Yes) × (u ≡ Yes)
both_yes Yes u e = (refl, e)
both_yes No u e = absurd cc
both_yes Neither Yes e = absurd cc
both_yes Neither No e = absurd cc
both_yes Neither Neither e = absurd cc

pub holds_is : (t : Truth) → is_yes t ≡ true → t ≡ Yes
holds_is Yes e = refl
holds_is No e = cc
holds_is Neither e = cc

-- the tests pass at the start under a binding where the condition holds, or those of its negation where it fails
record Pass (start : Look) (b : List ℕ) (truth : Truth) (tests : StaticTests) : Type 0 where
  affirmed : truth ≡ Yes → list_all (passes start b) tests.affirmed ≡ true
  negated : truth ≡ No → list_all (passes start b) tests.negated ≡ true

module _ (static : ℕ → Bool) (objects : List (List ℕ)) (look start : Look) (same : (predicate : ℕ) (os : List ℕ) → static predicate ≡ true → look.atom predicate os ≡ start.atom predicate os) where
  abbrev tests_in : Cond → StaticTests
  tests_in = fold-Cond StaticTests (tests_step static)

  abbrev TestsPass : Cond → Type 0
  TestsPass c = (b : List ℕ) → Pass start b (truth_in objects look c b) (tests_in c)

  abbrev Part : Type 0
  Part = (c : Cond) × TestsPass c

  Layer : Cond-F Cond → Type 0
  Layer x = (b : List ℕ) → Pass start b (holds_step objects look (map-Cond Cond (List ℕ → Truth) (truth_in objects look) x) b) (tests_step static (map-Cond Cond StaticTests tests_in x))

  atom_passes : (predicate : ℕ) (terms : List Term) (b : List ℕ) (is : Bool) → static predicate ≡ is → Pass start b (truth_of (look.atom predicate (objects_of b terms))) (tests_step static (Cond-F.Atom predicate terms))
  atom_passes predicate terms b true is = record {
    affirmed = λ holds. rw is (and_from _ true (sym (same predicate (objects_of b terms) is) ∙ yes_is (look.atom predicate (objects_of b terms)) holds) refl);
    negated = λ fails. rw is (and_from _ true (not_from_false _ (sym (same predicate (objects_of b terms) is) ∙ no_is (look.atom predicate (objects_of b terms)) fails)) refl);
  }
  atom_passes predicate terms b false is = record { affirmed = λ holds. rw is refl; negated = λ fails. rw is refl }

  all_pass : (ps : List Part) (b : List ℕ) → all_of (map (λ part. part b) (map (truth_in objects look) (map (λ p. p.0) ps))) ≡ Yes → list_all (passes start b) (flat_map (λ (part : StaticTests). part.affirmed) (map tests_in (map (λ p. p.0) ps))) ≡ true
  all_pass [] b holds = refl
  all_pass (p ∷ ps) b holds =
      let both = both_yes (truth_in objects look p.0 b) (all_of (map (λ part. part b) (map (truth_in objects look) (map (λ p. p.0) ps)))) holds in
      list_all-append (passes start b) (tests_in p.0).affirmed (flat_map (λ (part : StaticTests). part.affirmed) (map tests_in (map (λ p. p.0) ps)))
      ∙ and_from (list_all (passes start b) (tests_in p.0).affirmed) (list_all (passes start b) (flat_map (λ (part : StaticTests). part.affirmed) (map tests_in (map (λ p. p.0) ps)))) ((p.1 b).affirmed both.0) (all_pass ps b both.1)

  level : (y : Cond-F Part) → Layer (map-Cond Part Cond (λ p. p.0) y)
  unfolding Layer
  level (Cond-F.Atom predicate terms) b = atom_passes predicate terms b (static predicate) refl
  level (Cond-F.Same left right) b = record {
    affirmed = λ holds. and_from _ true (yes_is (nat_eq (object_of b left) (object_of b right)) holds) refl;
    negated = λ fails. and_from _ true (not_from_false _ (no_is (nat_eq (object_of b left) (object_of b right)) fails)) refl;
  }
  level (Cond-F.Compare relation left right) b = record { affirmed = λ holds. refl; negated = λ fails. refl }
  level (Cond-F.Not part) b = record { affirmed = λ holds. (part.1 b).negated (negated_no (truth_in objects look part.0 b) holds); negated = λ fails. refl }
  level (Cond-F.And parts) b = record { affirmed = λ holds. all_pass parts b holds; negated = λ fails. refl }
  level (Cond-F.Or parts) b = record { affirmed = λ holds. refl; negated = λ fails. refl }
  level (Cond-F.Imply left right) b = record { affirmed = λ holds. refl; negated = λ fails. refl }
  level (Cond-F.All variables part) b = record { affirmed = λ holds. refl; negated = λ fails. refl }
  level (Cond-F.Any variables part) b = record { affirmed = λ holds. refl; negated = λ fails. refl }

  tests_pass : (c : Cond) → TestsPass c
  unfolding Layer
  tests_pass = ind-Cond TestsPass (λ x y is b.
      let at_layer = subst (λ z. Layer z) is (level y) b in
      subst (λ (truth : List ℕ → Truth). Pass start b (truth b) (tests_in (roll-Cond x))) (sym (fold-roll-Cond (List ℕ → Truth) (holds_step objects look) x))
      (subst (λ (tests : StaticTests). Pass start b (holds_step objects look (map-Cond Cond (List ℕ → Truth) (truth_in objects look) x) b) tests) (sym (fold-roll-Cond StaticTests (tests_step static) x)) at_layer))

  front_passes : (b : List ℕ) (tests : List StaticTest) → list_all (passes start b) tests ≡ true → is_live_front start tests b ≡ true
  front_passes b [] all = refl
  front_passes b (test ∷ tests) all =
      let both = and_parts (passes start b test) (list_all (passes start b) tests) all in
      and_from (nat_lt (length b) (depth_of test) || passes start b test) (is_live_front start tests b) (or_right (nat_lt (length b) (depth_of test)) (passes start b test) both.0) (front_passes b tests both.1)

  pub front_is_live : (c : Cond) (b : List ℕ) → is_yes (truth_in objects look c b) ≡ true → is_live_front start (tests_in c).affirmed b ≡ true
  front_is_live c b holds = front_passes b (tests_in c).affirmed ((tests_pass c b).affirmed (holds_is (truth_in objects look c b) holds))
