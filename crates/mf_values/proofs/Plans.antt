-- The relaxed plan to a goal that no first layer meets has a step.
use Rattle.std.proofs.Common.{◌≡◌, ◌≢◌, ℕ, zero, suc, ◌+◌, nat_eq, Bool, true, false, not, cond, List, [], ◌∷◌, ◌++◌, Option, Some, None, length, map, filter, refl, sym, ap, ap₂, subst, ◌∙◌, ⊎_elim, arith}
use Rattle.std.specs.List.{AllByRecursion, Contains, flat_map}
use Rattle.std.specs.Set.{distinct_count, unique_keys, is_member}
use Rattle.std.proofs.lemmas.Bool.{eq-eqb}
use Rattle.mf_meaning.proofs.LiveInstances.{contains_filter}
use Rattle.mf_search.proofs.Members.{in_cons, in_first, in_later, not_in_nil}
use Rattle.mf_task.specs.declared.ground.GroundCond.{GroundCond, fold-GroundCond}
use Rattle.mf_task.specs.declared.ground.GroundCond.TheOpen.{GroundCond-F}
use Rattle.mf_task.specs.declared.ground.GroundCond.TheFolds.{ind-GroundCond, fold-roll-GroundCond, map-GroundCond}
use Rattle.mf_task.specs.declared.task.Task.{Task}
use Rattle.mf_task.specs.Layers.{FiringEffect, Layer, all_levels, and_level, level_as, level_of, level_step, listed, or_level}
use Rattle.mf_task.specs.RelaxedPlan.{LayerNeed, Need, AtomNeed, FormNeed, Relaxation, Relaxed, Requirement, Service, Step, all_needs, at_layer, at_this_layer, fired_at, is_counted_part, level_part, needs_after, needs_of, plan_length, relaxed_at, relaxed_from, require_step, required, same_step, selected_in, served, served_form, services, want_for}
use Rattle.mf_task.specs.Rows.{Sight}
use Rattle.mf_task.specs.NumberedTasks.{HasProperForms}
use Rattle.mf_values.specs.Fitting.{HasFittingConstants, IsStoredSight}
use Rattle.mf_values.proofs.Chosen.{relaxation_to, served-leaves}
use Rattle.mf_values.proofs.Needs.{Serves}
use Rattle.mf_values.proofs.Required.{HasNeed, HasServedLeaves, IsServed, all-need, condition-served}
use Rattle.mf_values.proofs.Serving.{served-some}

-- Levels

module _ (r : Relaxation) where
  abbrev requirement : GroundCond → Requirement
  requirement = fold-GroundCond Requirement (require_step r)

  abbrev SameLevel : GroundCond → Type 0
  SameLevel c = (requirement c).level ≡ level_as r.task r.layers c

  abbrev Part : Type 0
  Part = (c : GroundCond) × SameLevel c

  same-levels : (ps : List Part) → map level_part (map requirement (map (λ p. p.0) ps)) ≡ map (level_as r.task r.layers) (map (λ p. p.0) ps)
  same-levels [] = refl
  same-levels (p ∷ ps) = ap₂ (λ x xs. x ∷ xs) p.1 (same-levels ps)

  Layered : GroundCond-F GroundCond → Type 0
  Layered x = (require_step r (map-GroundCond GroundCond Requirement requirement x)).level ≡ level_step r.task r.layers (map-GroundCond GroundCond (Bool → Option ℕ) (level_as r.task r.layers) x)

  level : (y : GroundCond-F Part) → Layered (map-GroundCond Part GroundCond (λ p. p.0) y)
  unfolding Layered
  level (GroundCond-F.Fact holds) = refl
  level GroundCond-F.Neither = refl
  level (GroundCond-F.Atom atom) = refl
  level (GroundCond-F.Compare relation form) = refl
  level (GroundCond-F.Not part) = ap (λ (f : Bool → Option ℕ). λ asked. f (not asked)) part.1
  level (GroundCond-F.And parts) = ap and_level (same-levels parts)
  level (GroundCond-F.Or parts) = ap or_level (same-levels parts)

  pub same-level : (c : GroundCond) → SameLevel c
  unfolding Layered
  same-level = ind-GroundCond SameLevel (λ x y is.
      ap (λ (q : Requirement). q.level) (fold-roll-GroundCond Requirement (require_step r) x)
      ∙ subst (λ z. Layered z) is (level y)
      ∙ sym (fold-roll-GroundCond (Bool → Option ℕ) (level_step r.task r.layers) x))

  goal-levels : (goal : List GroundCond) → map (λ f. f true) (map level_part (map requirement goal)) ≡ map (level_of r.task r.layers) goal
  goal-levels [] = refl
  goal-levels (c ∷ goal) = ap₂ (λ x xs. x ∷ xs) (ap (λ f. f true) (same-level c)) (goal-levels goal)

  goal-needs : (goal : List GroundCond) → all_needs true (map requirement goal) ≡ flat_map (required r) goal
  goal-needs [] = refl
  goal-needs (c ∷ goal) = ap (λ needs. required r c ++ needs) (goal-needs goal)

  all-parts : (k : ℕ) → HasServedLeaves r k → (goal : List GroundCond) → AllByRecursion (IsServed r k) (map requirement goal)
  all-parts k leaves [] = tt
  all-parts k leaves (c ∷ goal) = (condition-served r k leaves c, all-parts k leaves goal)

  -- the goal has a need of the layer of its level
  pub goal-need : (k : ℕ) → HasServedLeaves r k → (goal : List GroundCond) → all_levels (map (level_of r.task r.layers) goal) ≡ Some (suc k) → HasNeed r k (flat_map (required r) goal)
  goal-need k leaves goal e = subst (HasNeed r k) (goal-needs goal) (all-need r k true (map requirement goal) (all-parts k leaves goal) (ap all_levels (goal-levels goal) ∙ e))

  -- Steps

  listed-some : {X : Type 0} (o : Option X) (x : X) → o ≡ Some x → listed o ≢ []
  listed-some None x e f = cc
  listed-some (Some y) x e f = cc

  serves-some : (k : ℕ) (need : Need) → Serves r (at_layer r k) (at_layer r (suc k)) (fired_at r k) need → (served r k need).selected ≢ []
  serves-some k (AtomNeed asked atom) s = listed-some _ s.server s.found
  serves-some k (FormNeed strict form) s = (served-some r (at_layer r k) (at_layer r (suc k)) (fired_at r k) strict form s).some

  in-map : {X Y : Type 0} (f : X → Y) (xs : List X) (x : X) → Contains xs x → Contains (map f xs) (f x)
  in-map f [] x h = absurd (not_in_nil x h)
  in-map f (y ∷ xs) x h = ⊎_elim (λ e. subst (λ z. Contains (f y ∷ map f xs) z) (ap f e) (in_first (f y) (map f xs))) (λ rest. in_later (f y) (map f xs) (f x) (in-map f xs x rest)) (in_cons y xs x h)

  no-append : {X : Type 0} (xs ys : List X) → xs ++ ys ≡ [] → (xs ≡ []) × (ys ≡ [])
  no-append [] ys e = (refl, e)
  no-append (x ∷ xs) ys e = absurd cc

  some-selected : (found : List Service) (s : Service) → Contains found s → s.selected ≢ [] → selected_in found ≢ []
  some-selected [] s h some e = absurd (not_in_nil s h)
  some-selected (t ∷ found) s h some e =
      let none = no-append t.selected (selected_in found) e in
      ⊎_elim (λ same. some (ap (λ (x : Service). x.selected) (sym same) ∙ none.0)) (λ rest. some-selected found s rest some none.1) (in_cons t found s h)

  step-selected : (k : ℕ) (needs : List LayerNeed) → HasNeed r k needs → selected_in (services r k needs) ≢ []
  step-selected k needs h =
      let here = contains_filter (λ n. nat_eq (k + 1) n.layer) needs h.need h.listed (eq-eqb (k + 1) h.need.layer (let e = h.layer_is in omega arith)) in
      some-selected (services r k needs) (served r k h.need.need) (in-map (λ (n : LayerNeed). served r k n.need) (at_this_layer (k + 1) needs) h.need here) (serves-some k h.need.need h.serves)

  no-map : {X Y : Type 0} (f : X → Y) (xs : List X) → map f xs ≡ [] → xs ≡ []
  no-map f [] e = refl
  no-map f (x ∷ xs) e = absurd cc

  steps-stay : (k : ℕ) (needs : List LayerNeed) (steps : List Step) → steps ≢ [] → (relaxed_from r k needs steps).steps ≢ []
  steps-stay zero needs steps some = some
  steps-stay (suc k) needs steps some =
      steps-stay k (needs_after r needs (services r k needs)) (steps ++ map (λ effect. record { layer = k; action = effect.action }) (selected_in (services r k needs))) (λ e. some (no-append steps (map (λ effect. record { layer = k; action = effect.action }) (selected_in (services r k needs))) e).0)

  pub plan-has-step : (k : ℕ) (needs : List LayerNeed) → HasNeed r k needs → (relaxed_from r (suc k) needs []).steps ≢ []
  plan-has-step k needs h =
      steps-stay k (needs_after r needs (services r k needs)) (map (λ effect. record { layer = k; action = effect.action }) (selected_in (services r k needs))) (λ e. step-selected k needs h (no-map (λ (effect : FiringEffect). record { layer = k; action = effect.action }) (selected_in (services r k needs)) e))

no-length : {X : Type 0} (xs : List X) → length xs ≡ 0 → xs ≡ []
no-length [] e = refl
no-length (x ∷ xs) e = absurd (omega arith)

keys-none : (xs : List Step) → unique_keys same_step xs ≡ [] → xs ≡ []
keys-none [] e = refl
keys-none (x ∷ xs) e = by (is_member same_step xs x) refl e (keys-none xs)
  where
    by : (b : Bool) → is_member same_step xs x ≡ b → cond b (unique_keys same_step xs) (x ∷ unique_keys same_step xs) ≡ [] → (unique_keys same_step xs ≡ [] → xs ≡ []) → x ∷ xs ≡ []
    by false h f rest = absurd cc
    by true h f rest = let none = rest f in absurd (member-none (sym (ap (λ ys. is_member same_step ys x) none) ∙ h))
      where
        member-none : is_member same_step [] x ≡ true → ⊥
        member-none g = cc

pub no-steps : (relaxed : Relaxed) → plan_length relaxed ≡ 0 → relaxed.steps ≡ []
no-steps relaxed e = keys-none relaxed.steps (no-length (unique_keys same_step relaxed.steps) e)
