-- A condition has level 0 exactly where it holds, and its negation exactly where it fails.
use Rattle.std.proofs.Common.{◌≡◌, ◌⊎◌, inl, inr, ℕ, zero, suc, ◌<◌, max, min, nat_lt, Bool, true, false, ◌||◌, not, cond, if◌then◌else◌, List, [], ◌∷◌, Option, Some, None, length, map, refl, sym, ap, ap₂, subst, ◌∙◌, ⊎_elim, arith, true≢false}
use Rattle.std.specs.List.{list_any, list_all, position}
use Rattle.std.proofs.lemmas.Bool.{and_from, and_parts, lt-ltb}
use Rattle.mf_model.specs.declared.truth.Truth.{Truth}
use Rattle.mf_model.specs.declared.truth.Truth.TheVariants.{Yes, No, Neither}
use Rattle.mf_model.specs.Meaning.{all_of, and_of, any_of, is_yes, not_of, or_of, truth_of}
use Rattle.mf_task.specs.declared.ground.GroundCond.{GroundCond, fold-GroundCond}
use Rattle.mf_task.specs.declared.ground.GroundCond.TheOpen.{GroundCond-F}
use Rattle.mf_task.specs.declared.ground.GroundCond.TheFolds.{ind-GroundCond, fold-roll-GroundCond, map-GroundCond}
use Rattle.mf_task.specs.declared.task.Task.{Task}
use Rattle.mf_task.specs.GroundMeaning.{form_at, ground_holds, ground_truth, ground_truth_step}
use Rattle.mf_task.specs.Layers.{Layer, all_levels, and_level, any_level, atom_is_met, earlier, first_layer, form_is_met, later, level_as, level_of, level_step, or_level, want_of}
use Rattle.mf_task.specs.Rows.{Sight}
use Rattle.mf_task.specs.Width.{is_wide_at, is_wide_cond, wide_step}
use Rattle.mf_task.specs.NumberedTasks.{HasProperForms, IsProperSight}
use Rattle.mf_values.proofs.Chosen.{first-place}
use Rattle.mf_values.proofs.FirstLevels.{met-first}
use Rattle.mf_values.proofs.Required.{earlier-part}

-- both follow from each other
pub record Same (A B : Type 0) : Type 0 where
  pub to : A → B
  pub back : B → A

pub or-false : (b c : Bool) → (b || c) ≡ false → (b ≡ false) × (c ≡ false)
or-false true c e = cc
or-false false c e = (refl, e)

first-position : {X : Type 0} (p : X → Bool) (x : X) (xs : List X) → Same (position p (x ∷ xs) ≡ Some 0) (p x ≡ true)
first-position p x xs = record {
  to = λ e. (first-place p (x ∷ xs) x 0 e).passes;
  back = λ e. rw (e, lt-ltb 0 (length (x ∷ xs)) (omega arith)) refl;
}

later-zero : (x y : Option ℕ) → Same (later x y ≡ Some 0) ((x ≡ Some 0) × (y ≡ Some 0))
later-zero (Some a) (Some b) = record {
  to = λ e. let m : max a b ≡ 0 = cc in (ap (λ n. Some n) (omega (arith, m)), ap (λ n. Some n) (omega (arith, m)));
  back = λ e. let p : a ≡ 0 = (let f = e.0 in cc) in let q : b ≡ 0 = (let f = e.1 in cc) in ap (λ n. Some n) (omega (arith, p, q));
}
later-zero (Some a) None = record { to = λ e. absurd cc; back = λ e. absurd (let f = e.1 in cc) }
later-zero None y = record { to = λ e. absurd cc; back = λ e. absurd (let f = e.0 in cc) }

earlier-left : (y : Option ℕ) → earlier (Some 0) y ≡ Some 0
earlier-left (Some b) = ap (λ n. Some n) (omega arith)
earlier-left None = refl

earlier-right : (x : Option ℕ) → earlier x (Some 0) ≡ Some 0
earlier-right (Some a) = ap (λ n. Some n) (omega arith)
earlier-right None = refl

earlier-zero : (x y : Option ℕ) → Same (earlier x y ≡ Some 0) ((x ≡ Some 0) ⊎ (y ≡ Some 0))
earlier-zero x y = record {
  to = earlier-part x y 0;
  back = ⊎_elim (λ e. ap (λ z. earlier z y) e ∙ earlier-left y) (λ e. ap (earlier x) e ∙ earlier-right x);
}

and-yes : (t u : Truth) → Same (and_of t u ≡ Yes) ((t ≡ Yes) × (u ≡ Yes))
and-yes Yes u = record { to = λ e. (refl, e); back = λ e. e.1 }
and-yes No u = record { to = λ e. absurd cc; back = λ e. absurd (let f = e.0 in cc) }
and-yes Neither Yes = record { to = λ e. absurd cc; back = λ e. absurd (let f = e.0 in cc) }
and-yes Neither No = record { to = λ e. absurd cc; back = λ e. absurd (let f = e.0 in cc) }
and-yes Neither Neither = record { to = λ e. absurd cc; back = λ e. absurd (let f = e.0 in cc) }

and-no : (t u : Truth) → Same (and_of t u ≡ No) ((t ≡ No) ⊎ (u ≡ No))
and-no Yes u = record { to = λ e. inr e; back = ⊎_elim (λ e. absurd cc) (λ e. e) }
and-no No u = record { to = λ e. inl refl; back = λ e. refl }
and-no Neither Yes = record { to = λ e. absurd cc; back = ⊎_elim (λ e. absurd cc) (λ e. absurd cc) }
and-no Neither No = record { to = λ e. inr refl; back = λ e. refl }
and-no Neither Neither = record { to = λ e. absurd cc; back = ⊎_elim (λ e. absurd cc) (λ e. absurd cc) }

or-yes : (t u : Truth) → Same (or_of t u ≡ Yes) ((t ≡ Yes) ⊎ (u ≡ Yes))
or-yes Yes u = record { to = λ e. inl refl; back = λ e. refl }
or-yes No Yes = record { to = λ e. inr refl; back = λ e. refl }
or-yes No No = record { to = λ e. absurd cc; back = ⊎_elim (λ e. absurd cc) (λ e. absurd cc) }
or-yes No Neither = record { to = λ e. absurd cc; back = ⊎_elim (λ e. absurd cc) (λ e. absurd cc) }
or-yes Neither Yes = record { to = λ e. inr refl; back = λ e. refl }
or-yes Neither No = record { to = λ e. absurd cc; back = ⊎_elim (λ e. absurd cc) (λ e. absurd cc) }
or-yes Neither Neither = record { to = λ e. absurd cc; back = ⊎_elim (λ e. absurd cc) (λ e. absurd cc) }

or-no : (t u : Truth) → Same (or_of t u ≡ No) ((t ≡ No) × (u ≡ No))
or-no Yes u = record { to = λ e. absurd cc; back = λ e. absurd (let f = e.0 in cc) }
or-no No Yes = record { to = λ e. absurd cc; back = λ e. absurd (let f = e.1 in cc) }
or-no No No = record { to = λ e. (refl, refl); back = λ e. refl }
or-no No Neither = record { to = λ e. absurd cc; back = λ e. absurd (let f = e.1 in cc) }
or-no Neither Yes = record { to = λ e. absurd cc; back = λ e. absurd (let f = e.0 in cc) }
or-no Neither No = record { to = λ e. absurd cc; back = λ e. absurd (let f = e.0 in cc) }
or-no Neither Neither = record { to = λ e. absurd cc; back = λ e. absurd (let f = e.0 in cc) }

truth-same : (b asked : Bool) → Same ((if asked then b else not b) ≡ true) (truth_of b ≡ truth_of asked)
truth-same true true = record { to = λ e. refl; back = λ e. refl }
truth-same true false = record { to = λ e. absurd cc; back = λ e. absurd cc }
truth-same false true = record { to = λ e. absurd cc; back = λ e. absurd cc }
truth-same false false = record { to = λ e. refl; back = λ e. refl }

not-same : (t : Truth) (asked : Bool) → Same (t ≡ truth_of (not asked)) (not_of t ≡ truth_of asked)
not-same Yes true = record { to = λ e. absurd cc; back = λ e. absurd cc }
not-same Yes false = record { to = λ e. refl; back = λ e. refl }
not-same No true = record { to = λ e. refl; back = λ e. refl }
not-same No false = record { to = λ e. absurd cc; back = λ e. absurd cc }
not-same Neither true = record { to = λ e. absurd cc; back = λ e. absurd cc }
not-same Neither false = record { to = λ e. absurd cc; back = λ e. absurd cc }

module _ (task : Task) (sight : Sight) (rest : List Layer) (forms : HasProperForms task) (values : IsProperSight sight) where
  abbrev layers : List Layer
  layers = first_layer sight ∷ rest

  -- a condition that is not wide has level 0 exactly where it is so
  abbrev Claim : GroundCond → Type 0
  Claim c = is_wide_cond task sight c ≡ false → (asked : Bool) → Same (level_as task layers c asked ≡ Some 0) (ground_truth task sight c ≡ truth_of asked)

  abbrev Part : Type 0
  Part = (c : GroundCond) × Claim c

  abbrev conditions : List Part → List GroundCond
  conditions ps = map (λ p. p.0) ps

  abbrev levels : Bool → List Part → List (Option ℕ)
  levels asked ps = map (λ f. f asked) (map (level_as task layers) (conditions ps))

  abbrev truths : List Part → List Truth
  truths ps = map (ground_truth task sight) (conditions ps)

  abbrev AreNarrow : List Part → Type 0
  AreNarrow ps = list_any (λ (b : Bool). b) (map (is_wide_cond task sight) (conditions ps)) ≡ false

  all-true : (ps : List Part) → AreNarrow ps → Same (all_levels (levels true ps) ≡ Some 0) (all_of (truths ps) ≡ Yes)
  all-true [] n = record { to = λ e. refl; back = λ e. refl }
  all-true (p ∷ ps) n =
      let both = or-false (is_wide_cond task sight p.0) (list_any (λ (b : Bool). b) (map (is_wide_cond task sight) (conditions ps))) n in
      let one = p.1 both.0 true in
      let others = all-true ps both.1 in
      let zeros = later-zero (level_as task layers p.0 true) (all_levels (levels true ps)) in
      let yeses = and-yes (ground_truth task sight p.0) (all_of (truths ps)) in
      record { to = λ e. let z = zeros.to e in yeses.back (one.to z.0, others.to z.1); back = λ e. let y = yeses.to e in zeros.back (one.back y.0, others.back y.1) }

  all-false : (ps : List Part) → AreNarrow ps → Same (all_levels (levels false ps) ≡ Some 0) (any_of (truths ps) ≡ No)
  all-false [] n = record { to = λ e. refl; back = λ e. refl }
  all-false (p ∷ ps) n =
      let both = or-false (is_wide_cond task sight p.0) (list_any (λ (b : Bool). b) (map (is_wide_cond task sight) (conditions ps))) n in
      let one = p.1 both.0 false in
      let others = all-false ps both.1 in
      let zeros = later-zero (level_as task layers p.0 false) (all_levels (levels false ps)) in
      let noes = or-no (ground_truth task sight p.0) (any_of (truths ps)) in
      record { to = λ e. let z = zeros.to e in noes.back (one.to z.0, others.to z.1); back = λ e. let y = noes.to e in zeros.back (one.back y.0, others.back y.1) }

  any-false : (ps : List Part) → AreNarrow ps → Same (any_level (levels false ps) ≡ Some 0) (all_of (truths ps) ≡ No)
  any-false [] n = record { to = λ e. absurd cc; back = λ e. absurd cc }
  any-false (p ∷ ps) n =
      let both = or-false (is_wide_cond task sight p.0) (list_any (λ (b : Bool). b) (map (is_wide_cond task sight) (conditions ps))) n in
      let one = p.1 both.0 false in
      let others = any-false ps both.1 in
      let zeros = earlier-zero (level_as task layers p.0 false) (any_level (levels false ps)) in
      let noes = and-no (ground_truth task sight p.0) (all_of (truths ps)) in
      record { to = λ e. noes.back (⊎_elim (λ z. inl (one.to z)) (λ z. inr (others.to z)) (zeros.to e)); back = λ e. zeros.back (⊎_elim (λ y. inl (one.back y)) (λ y. inr (others.back y)) (noes.to e)) }

  any-true : (ps : List Part) → AreNarrow ps → Same (any_level (levels true ps) ≡ Some 0) (any_of (truths ps) ≡ Yes)
  any-true [] n = record { to = λ e. absurd cc; back = λ e. absurd cc }
  any-true (p ∷ ps) n =
      let both = or-false (is_wide_cond task sight p.0) (list_any (λ (b : Bool). b) (map (is_wide_cond task sight) (conditions ps))) n in
      let one = p.1 both.0 true in
      let others = any-true ps both.1 in
      let zeros = earlier-zero (level_as task layers p.0 true) (any_level (levels true ps)) in
      let yeses = or-yes (ground_truth task sight p.0) (any_of (truths ps)) in
      record { to = λ e. yeses.back (⊎_elim (λ z. inl (one.to z)) (λ z. inr (others.to z)) (zeros.to e)); back = λ e. zeros.back (⊎_elim (λ y. inl (one.back y)) (λ y. inr (others.back y)) (yeses.to e)) }

  and-same : (ps : List Part) → AreNarrow ps → (asked : Bool) → Same (and_level (map (level_as task layers) (conditions ps)) asked ≡ Some 0) (all_of (truths ps) ≡ truth_of asked)
  and-same ps n true = all-true ps n
  and-same ps n false = any-false ps n

  or-same : (ps : List Part) → AreNarrow ps → (asked : Bool) → Same (or_level (map (level_as task layers) (conditions ps)) asked ≡ Some 0) (any_of (truths ps) ≡ truth_of asked)
  or-same ps n true = any-true ps n
  or-same ps n false = all-false ps n

  fact-same : (holds asked : Bool) → Same (level_step task layers (GroundCond-F.Fact holds) asked ≡ Some 0) (truth_of holds ≡ truth_of asked)
  fact-same true true = record { to = λ e. refl; back = λ e. refl }
  fact-same true false = record { to = λ e. absurd cc; back = λ e. absurd cc }
  fact-same false true = record { to = λ e. absurd cc; back = λ e. absurd cc }
  fact-same false false = record { to = λ e. refl; back = λ e. refl }

  neither-same : (asked : Bool) → Same (level_step task layers GroundCond-F.Neither asked ≡ Some 0) (Neither ≡ truth_of asked)
  neither-same true = record { to = λ e. absurd cc; back = λ e. absurd cc }
  neither-same false = record { to = λ e. absurd cc; back = λ e. absurd cc }

  then-same : {A B C : Type 0} → Same A B → Same B C → Same A C
  then-same f g = record { to = λ a. g.to (f.to a); back = λ c. f.back (g.back c) }

  atom-same : (atom : ℕ) (asked : Bool) → Same (atom_is_met atom asked (first_layer sight) ≡ true) (truth_of (sight.bit atom) ≡ truth_of asked)
  atom-same atom true = truth-same (sight.bit atom) true
  atom-same atom false = truth-same (sight.bit atom) false

  Layered : GroundCond-F GroundCond → Type 0
  Layered x =
      wide_step task sight (map-GroundCond GroundCond Bool (is_wide_cond task sight) x) ≡ false
      → (asked : Bool) → Same (level_step task layers (map-GroundCond GroundCond (Bool → Option ℕ) (level_as task layers) x) asked ≡ Some 0) (ground_truth_step task sight (map-GroundCond GroundCond Truth (ground_truth task sight) x) ≡ truth_of asked)

  level : (y : GroundCond-F Part) → Layered (map-GroundCond Part GroundCond (λ p. p.0) y)
  unfolding Layered
  level (GroundCond-F.Fact holds) n asked = fact-same holds asked
  level GroundCond-F.Neither n asked = neither-same asked
  level (GroundCond-F.Atom atom) n asked = then-same (first-position (atom_is_met atom asked) (first_layer sight) rest) (atom-same atom asked)
  level (GroundCond-F.Compare r form) n asked =
      let met = met-first sight (form_at task form) r asked values (forms.forms form) n in
      then-same (first-position (λ layer. form_is_met layer (want_of asked r) (form_at task form)) (first_layer sight) rest) (record { to = met.0; back = met.1 })
  level (GroundCond-F.Not part) n asked = then-same (part.1 n (not asked)) (not-same (ground_truth task sight part.0) asked)
  level (GroundCond-F.And parts) n asked = and-same parts n asked
  level (GroundCond-F.Or parts) n asked = or-same parts n asked

  pub zero-level : (c : GroundCond) → Claim c
  unfolding Layered
  zero-level = ind-GroundCond Claim (λ x y is n asked.
      let at-layer = subst (λ z. Layered z) is (level y) (sym (fold-roll-GroundCond Bool (wide_step task sight) x) ∙ n) asked in
      let level-is = ap (λ g. g asked) (fold-roll-GroundCond (Bool → Option ℕ) (level_step task layers) x) in
      let truth-is = fold-roll-GroundCond Truth (ground_truth_step task sight) x in
      record { to = λ e. truth-is ∙ at-layer.to (sym level-is ∙ e); back = λ e. level-is ∙ at-layer.back (sym truth-is ∙ e) })

  -- the goal has level 0 exactly where each conjunct holds
  yes-holds : (t : Truth) → Same (t ≡ Yes) (is_yes t ≡ true)
  yes-holds Yes = record { to = λ e. refl; back = λ e. refl }
  yes-holds No = record { to = λ e. absurd cc; back = λ e. absurd cc }
  yes-holds Neither = record { to = λ e. absurd cc; back = λ e. absurd cc }

  pub zero-goal : (goal : List GroundCond) → list_any (is_wide_cond task sight) goal ≡ false → Same (all_levels (map (level_of task layers) goal) ≡ Some 0) (list_all (ground_holds task sight) goal ≡ true)
  zero-goal [] n = record { to = λ e. refl; back = λ e. refl }
  zero-goal (c ∷ goal) n =
      let both = or-false (is_wide_cond task sight c) (list_any (is_wide_cond task sight) goal) n in
      let one = then-same (zero-level c both.0 true) (yes-holds (ground_truth task sight c)) in
      let others = zero-goal goal both.1 in
      let zeros = later-zero (level_of task layers c) (all_levels (map (level_of task layers) goal)) in
      record {
        to = λ e. let z = zeros.to e in and_from (ground_holds task sight c) (list_all (ground_holds task sight) goal) (one.to z.0) (others.to z.1);
        back = λ e. let y = and_parts (ground_holds task sight c) (list_all (ground_holds task sight) goal) e in zeros.back (one.back y.0, others.back y.1);
      }
