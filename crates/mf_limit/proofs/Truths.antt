-- What a condition is at a reached sight is what the family says that it may be.
use Rattle.std.proofs.Common.{◌≡◌, ℕ, Bool, true, false, not, ◌&&◌, ◌||◌, Ordering, Less, Equal, Greater, List, [], ◌∷◌, map, Option, Some, None, refl, sym, ap, subst, ◌∙◌, true≢false}
use Rattle.std.specs.List.{list_all, list_any}
use Rattle.std.proofs.lemmas.Bool.{and_from, and_parts, or_left, or_right}
use Rattle.mf_fraction.specs.Exact.{Number}
use Rattle.mf_model.specs.declared.task.Relation.{Relation}
use Rattle.mf_model.specs.declared.truth.Truth.{Truth}
use Rattle.mf_model.specs.declared.truth.Truth.TheVariants.{Yes, No, Neither}
use Rattle.mf_model.specs.Meaning.{all_of, and_of, any_of, is_yes, not_of, truth_of}
use Rattle.mf_task.specs.declared.form.Form.{Form}
use Rattle.mf_task.specs.declared.ground.GroundCond.{GroundCond}
use Rattle.mf_task.specs.declared.ground.GroundCond.TheOpen.{GroundCond-F}
use Rattle.mf_task.specs.declared.ground.GroundCond.TheFolds.{ind-GroundCond, fold-roll-GroundCond, map-GroundCond}
use Rattle.mf_task.specs.declared.task.Task.{Task}
use Rattle.mf_task.specs.GroundMeaning.{form_at, ground_holds, ground_truth, ground_truth_step, relates, sign, truth_at}
use Rattle.mf_task.specs.LimitClosure.{Family, agrees_with, all_may, any_may, atom_may, may_be, may_compare, may_have_sign, may_hold, may_step}
use Rattle.mf_task.specs.LinearForms.{form_value}
use Rattle.mf_task.specs.Rows.{Sight}
use Rattle.mf_task.specs.NumberedTasks.{HasProperForms, IsProperForm, IsProperSight}
use Rattle.mf_limit.proofs.FormSigns.{form-may}
use Rattle.mf_limit.proofs.Reached.{Reaches}

same-truth : (b c : Bool) → truth_of b ≡ truth_of c → b ≡ c
same-truth true true e = refl
same-truth true false e = cc
same-truth false true e = cc
same-truth false false e = refl

no-truth : (b : Bool) → Neither ≡ truth_of b → ⊥
no-truth true e = cc
no-truth false e = cc

pub agrees-self : (b : Bool) → agrees_with b b ≡ true
agrees-self true = refl
agrees-self false = refl

pub some-sign : (test : Ordering → Bool) (o : Ordering) → test o ≡ true → list_any test (Less ∷ Equal ∷ Greater ∷ []) ≡ true
some-sign test Less e = or_left (test Less) (test Equal || (test Greater || false)) e
some-sign test Equal e = or_right (test Less) (test Equal || (test Greater || false)) (or_left (test Equal) (test Greater || false) e)
some-sign test Greater e =
    or_right (test Less) (test Equal || (test Greater || false)) (or_right (test Equal) (test Greater || false) (or_left (test Greater) false e))

and-yes : (t u : Truth) → and_of t u ≡ Yes → (t ≡ Yes) × (u ≡ Yes)
and-yes Yes u e = (refl, e)
and-yes No u e = cc
and-yes Neither Yes e = cc
and-yes Neither No e = cc
and-yes Neither Neither e = cc

data OneNo (t u : Truth) : Type 0 where
  first : t ≡ No → OneNo t u
  second : u ≡ No → OneNo t u

and-no : (t u : Truth) → and_of t u ≡ No → OneNo t u
and-no Yes u e = second e
and-no No u e = first refl
and-no Neither Yes e = cc
and-no Neither No e = second refl
and-no Neither Neither e = cc

not-yes : (t : Truth) → not_of t ≡ Yes → t ≡ No
not-yes Yes e = cc
not-yes No e = refl
not-yes Neither e = cc

not-no : (t : Truth) → not_of t ≡ No → t ≡ Yes
not-no Yes e = refl
not-no No e = cc
not-no Neither e = cc

not-turned : (t : Truth) (b : Bool) → not_of t ≡ truth_of b → t ≡ truth_of (not b)
not-turned t true e = not-yes t e
not-turned t false e = not-no t e

module _ (task : Task) (start : Sight) (f : Family) (sight : Sight) (forms : HasProperForms task) (proper : IsProperSight start) (reaches : Reaches f start sight) where
  abbrev Claim : GroundCond → Type 0
  Claim c = (asked : Bool) → ground_truth task sight c ≡ truth_of asked → may_be task start f c asked ≡ true

  abbrev Part : Type 0
  Part = (c : GroundCond) × Claim c

  abbrev truths : List Part → List Truth
  truths ps = map (ground_truth task sight) (map (λ p. p.0) ps)

  abbrev chances : List Part → List (Bool → Bool)
  chances ps = map (may_be task start f) (map (λ p. p.0) ps)

  all-hold : (ps : List Part) → all_of (truths ps) ≡ Yes → list_all (λ part. part true) (chances ps) ≡ true
  all-hold [] e = refl
  all-hold (p ∷ ps) e =
      let both = and-yes (ground_truth task sight p.0) (all_of (truths ps)) e in
      and_from (may_be task start f p.0 true) (list_all (λ part. part true) (chances ps)) (p.1 true both.0) (all-hold ps both.1)

  one-fails : (ps : List Part) → all_of (truths ps) ≡ No → list_any (λ part. part false) (chances ps) ≡ true
  one-fails [] e = cc
  one-fails (p ∷ ps) e = by (and-no (ground_truth task sight p.0) (all_of (truths ps)) e) (one-fails ps)
    where
      by : OneNo (ground_truth task sight p.0) (all_of (truths ps)) → (all_of (truths ps) ≡ No → list_any (λ part. part false) (chances ps) ≡ true) → list_any (λ part. part false) (chances (p ∷ ps)) ≡ true
      by (first h) rest = or_left (may_be task start f p.0 false) (list_any (λ part. part false) (chances ps)) (p.1 false h)
      by (second h) rest = or_right (may_be task start f p.0 false) (list_any (λ part. part false) (chances ps)) (rest h)

  all-fail : (ps : List Part) → any_of (truths ps) ≡ No → list_all (λ part. part false) (chances ps) ≡ true
  all-fail [] e = refl
  all-fail (p ∷ ps) e =
      let both = and-yes (not_of (ground_truth task sight p.0)) (not_of (any_of (truths ps))) (not-no (and_of (not_of (ground_truth task sight p.0)) (not_of (any_of (truths ps)))) e) in
      and_from (may_be task start f p.0 false) (list_all (λ part. part false) (chances ps)) (p.1 false (not-yes (ground_truth task sight p.0) both.0)) (all-fail ps (not-yes (any_of (truths ps)) both.1))

  one-holds : (ps : List Part) → any_of (truths ps) ≡ Yes → list_any (λ part. part true) (chances ps) ≡ true
  one-holds [] e = cc
  one-holds (p ∷ ps) e =
      by (and-no (not_of (ground_truth task sight p.0)) (not_of (any_of (truths ps))) (not-yes (and_of (not_of (ground_truth task sight p.0)) (not_of (any_of (truths ps)))) e)) (one-holds ps)
    where
      by : OneNo (not_of (ground_truth task sight p.0)) (not_of (any_of (truths ps))) → (any_of (truths ps) ≡ Yes → list_any (λ part. part true) (chances ps) ≡ true) → list_any (λ part. part true) (chances (p ∷ ps)) ≡ true
      by (first h) rest = or_left (may_be task start f p.0 true) (list_any (λ part. part true) (chances ps)) (p.1 true (not-no (ground_truth task sight p.0) h))
      by (second h) rest = or_right (may_be task start f p.0 true) (list_any (λ part. part true) (chances ps)) (rest (not-no (any_of (truths ps)) h))

  all-may : (ps : List Part) (asked : Bool) → all_of (truths ps) ≡ truth_of asked → all_may (chances ps) asked ≡ true
  all-may ps true e = all-hold ps e
  all-may ps false e = one-fails ps e

  any-may : (ps : List Part) (asked : Bool) → any_of (truths ps) ≡ truth_of asked → any_may (chances ps) asked ≡ true
  any-may ps true e = one-holds ps e
  any-may ps false e = all-fail ps e

  atom-may : (atom : ℕ) (asked : Bool) → sight.bit atom ≡ asked → atom_may f atom asked ≡ true
  atom-may atom true e = reaches.yes atom e
  atom-may atom false e = reaches.no atom e

  compare-may : (r : Relation) (a : Form) → IsProperForm a → (value : Option Number) → form_value sight.value a ≡ value → (asked : Bool) → truth_at r value ≡ truth_of asked → may_compare start f r a asked ≡ true
  compare-may r a form None is asked e = absurd (no-truth asked e)
  compare-may r a form (Some w) is asked e =
      some-sign (λ o. agrees_with asked (relates r o) && may_have_sign start f a o) (sign w)
      (and_from (agrees_with asked (relates r (sign w))) (may_have_sign start f a (sign w)) (ap (agrees_with asked) (same-truth (relates r (sign w)) asked e) ∙ agrees-self asked) (form-may f start sight reaches proper a form w is))

  Layer : GroundCond-F GroundCond → Type 0
  Layer x =
      (asked : Bool) → ground_truth_step task sight (map-GroundCond GroundCond Truth (ground_truth task sight) x) ≡ truth_of asked → may_step task start f (map-GroundCond GroundCond (Bool → Bool) (may_be task start f) x) asked ≡ true

  level : (y : GroundCond-F Part) → Layer (map-GroundCond Part GroundCond (λ p. p.0) y)
  unfolding Layer
  level (GroundCond-F.Fact holds) asked e = ap (agrees_with asked) (same-truth holds asked e) ∙ agrees-self asked
  level GroundCond-F.Neither asked e = absurd (no-truth asked e)
  level (GroundCond-F.Atom atom) asked e = atom-may atom asked (same-truth (sight.bit atom) asked e)
  level (GroundCond-F.Compare r form) asked e = compare-may r (form_at task form) (forms.forms form) (form_value sight.value (form_at task form)) refl asked e
  level (GroundCond-F.Not part) asked e = part.1 (not asked) (not-turned (ground_truth task sight part.0) asked e)
  level (GroundCond-F.And parts) asked e = all-may parts asked e
  level (GroundCond-F.Or parts) asked e = any-may parts asked e

  pub truth-may : (c : GroundCond) → Claim c
  unfolding Layer
  truth-may = ind-GroundCond Claim (λ x y is asked e.
      let at_layer = subst (λ z. Layer z) is (level y) asked (sym (fold-roll-GroundCond Truth (ground_truth_step task sight) x) ∙ e) in
      ap (λ g. g asked) (fold-roll-GroundCond (Bool → Bool) (may_step task start f) x) ∙ at_layer)

  pub holds-may : (c : GroundCond) → ground_holds task sight c ≡ true → may_hold task start f c ≡ true
  holds-may c e = truth-may c true (yes (ground_truth task sight c) e)
    where
      yes : (t : Truth) → is_yes t ≡ true → t ≡ Yes
      yes Yes e = refl
      yes No e = absurd (true≢false (sym e))
      yes Neither e = absurd (true≢false (sym e))

  pub goal-may : (goals : List GroundCond) → list_all (ground_holds task sight) goals ≡ true → list_all (may_hold task start f) goals ≡ true
  goal-may [] e = refl
  goal-may (c ∷ cs) e =
      let both = and_parts (ground_holds task sight c) (list_all (ground_holds task sight) cs) e in
      and_from (may_hold task start f c) (list_all (may_hold task start f) cs) (holds-may c both.0) (goal-may cs both.1)
