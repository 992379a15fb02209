-- A condition whose level is k + 1 has a need of layer k + 1 among its needs, which some effect serves.
use Rattle.std.proofs.Common.{◌≡◌, ◌⊎◌, inl, inr, ℕ, zero, suc, ◌+◌, ◌<◌, max, min, nat_eq, Bool, true, false, ◌&&◌, ◌||◌, not, cond, if◌then◌else◌, List, [], ◌∷◌, ◌++◌, Option, Some, None, map, refl, sym, ap, ap₂, subst, ◌∙◌, ⊎_elim, arith, true≢false}
use Rattle.std.specs.List.{AllByRecursion, Contains, find, flat_map, position}
use Rattle.std.proofs.lemmas.Bool.{eqb-true, eqb-false, eq-eqb}
use Rattle.mf_search.proofs.Members.{in_first, in_later, in_cons, not_in_nil}
use Rattle.mf_task.specs.declared.ground.GroundCond.{GroundCond, fold-GroundCond}
use Rattle.mf_task.specs.declared.ground.GroundCond.TheOpen.{GroundCond-F}
use Rattle.mf_task.specs.declared.ground.GroundCond.TheFolds.{ind-GroundCond, fold-roll-GroundCond, map-GroundCond}
use Rattle.mf_task.specs.GroundMeaning.{form_at}
use Rattle.mf_task.specs.Layers.{FiringEffect, Layer, Want, all_levels, and_level, any_level, atom_is_met, earlier, form_is_met, later, level_as, level_of, level_step, or_level, want_of}
use Rattle.mf_task.specs.LimitClosure.{agrees_with}
use Rattle.mf_task.specs.RelaxedPlan.{LayerNeed, Need, AtomNeed, Relaxation, Requirement, all_needs, and_needs, at_layer, atom_needs, fired_at, form_need, form_needs, is_level, least_needs, level_part, needs_of, needs_of_first, or_needs, require_step, required}
use Rattle.mf_values.proofs.Needs.{HasServer, Serves}

in-append-left : {X : Type 0} (xs ys : List X) (x : X) → Contains xs x → Contains (xs ++ ys) x
in-append-left [] ys x h = absurd (not_in_nil x h)
in-append-left (y ∷ xs) ys x h = ⊎_elim (λ e. subst (λ z. Contains (y ∷ xs ++ ys) z) e (in_first y (xs ++ ys))) (λ rest. in_later y (xs ++ ys) x (in-append-left xs ys x rest)) (in_cons y xs x h)

in-append-right : {X : Type 0} (xs ys : List X) (x : X) → Contains ys x → Contains (xs ++ ys) x
in-append-right [] ys x h = h
in-append-right (y ∷ xs) ys x h = in_later y (xs ++ ys) x (in-append-right xs ys x h)

-- of a greatest number one part is it
max-part : (a b m : ℕ) → max a b ≡ m → (a ≡ m) ⊎ (b ≡ m)
max-part a b m e = by (nat_eq a m) refl
  where
    by : (s : Bool) → nat_eq a m ≡ s → (a ≡ m) ⊎ (b ≡ m)
    by true h = inl (eqb-true a m h)
    by false h = let other = eqb-false a m h in inr (omega (arith, other, e))

min-part : (a b m : ℕ) → min a b ≡ m → (a ≡ m) ⊎ (b ≡ m)
min-part a b m e = by (nat_eq a m) refl
  where
    by : (s : Bool) → nat_eq a m ≡ s → (a ≡ m) ⊎ (b ≡ m)
    by true h = inl (eqb-true a m h)
    by false h = let other = eqb-false a m h in inr (omega (arith, other, e))

later-part : (x y : Option ℕ) (m : ℕ) → later x y ≡ Some m → (x ≡ Some m) ⊎ (y ≡ Some m)
later-part (Some a) (Some b) m e = ⊎_elim (λ h. inl (ap (λ n. Some n) h)) (λ h. inr (ap (λ n. Some n) h)) (max-part a b m cc)
later-part (Some a) None m e = cc
later-part None y m e = cc

pub earlier-part : (x y : Option ℕ) (m : ℕ) → earlier x y ≡ Some m → (x ≡ Some m) ⊎ (y ≡ Some m)
earlier-part (Some a) (Some b) m e = ⊎_elim (λ h. inl (ap (λ n. Some n) h)) (λ h. inr (ap (λ n. Some n) h)) (min-part a b m cc)
earlier-part (Some a) None m e = inl e
earlier-part None y m e = inr e

level-is : (x : Option ℕ) (m : ℕ) → is_level x (Some m) ≡ true → x ≡ Some m
level-is (Some a) m e = ap (λ n. Some n) (eqb-true a m e)
level-is None m e = cc

is-level-itself : (m : ℕ) → is_level (Some m) (Some m) ≡ true
is-level-itself m = eq-eqb m m refl

module _ (r : Relaxation) (k : ℕ) where
  -- among the needs is one of this layer that some effect serves
  pub record HasNeed (needs : List LayerNeed) : Type 0 where
    pub need : LayerNeed
    pub listed : Contains needs need
    pub layer_is : need.layer ≡ suc k
    pub serves : Serves r (at_layer r k) (at_layer r (suc k)) (fired_at r k) need.need

  pub record IsServed (part : Requirement) : Type 0 where
    pub needed : (asked : Bool) → part.level asked ≡ Some (suc k) → HasNeed (part.needs asked)

  more-left : (xs ys : List LayerNeed) → HasNeed xs → HasNeed (xs ++ ys)
  more-left xs ys h = record { need = h.need; listed = in-append-left xs ys h.need h.listed; layer_is = h.layer_is; serves = h.serves }

  more-right : (xs ys : List LayerNeed) → HasNeed ys → HasNeed (xs ++ ys)
  more-right xs ys h = record { need = h.need; listed = in-append-right xs ys h.need h.listed; layer_is = h.layer_is; serves = h.serves }

  abbrev levels_of : Bool → List Requirement → List (Option ℕ)
  levels_of asked parts = map (λ f. f asked) (map level_part parts)

  pub all-need : (asked : Bool) (parts : List Requirement) → AllByRecursion IsServed parts → all_levels (levels_of asked parts) ≡ Some (suc k) → HasNeed (all_needs asked parts)
  all-need asked [] all e = cc
  all-need asked (part ∷ parts) all e = by (later-part (part.level asked) (all_levels (levels_of asked parts)) (suc k) e) (all-need asked parts all.1)
    where
      by : (part.level asked ≡ Some (suc k)) ⊎ (all_levels (levels_of asked parts) ≡ Some (suc k)) → (all_levels (levels_of asked parts) ≡ Some (suc k) → HasNeed (all_needs asked parts)) → HasNeed (all_needs asked (part ∷ parts))
      by (inl h) rest = more-left (part.needs asked) (all_needs asked parts) (all.0.needed asked h)
      by (inr h) rest = more-right (part.needs asked) (all_needs asked parts) (rest h)

  -- the first part of this level
  first-need : (asked : Bool) (parts : List Requirement) → AllByRecursion IsServed parts → any_level (levels_of asked parts) ≡ Some (suc k) → HasNeed (needs_of_first asked (find (λ part. is_level (part.level asked) (Some (suc k))) parts))
  first-need asked [] all e = cc
  first-need asked (part ∷ parts) all e = by (is_level (part.level asked) (Some (suc k))) refl (earlier-part (part.level asked) (any_level (levels_of asked parts)) (suc k) e) (first-need asked parts all.1)
    where
      by : (b : Bool) → is_level (part.level asked) (Some (suc k)) ≡ b → (part.level asked ≡ Some (suc k)) ⊎ (any_level (levels_of asked parts) ≡ Some (suc k)) → (any_level (levels_of asked parts) ≡ Some (suc k) → HasNeed (needs_of_first asked (find (λ x. is_level (x.level asked) (Some (suc k))) parts))) → HasNeed (needs_of_first asked (if b then Some part else find (λ x. is_level (x.level asked) (Some (suc k))) parts))
      by true h or rest = all.0.needed asked (level-is (part.level asked) (suc k) h)
      by false h (inl here) rest = absurd (true≢false (sym (ap (λ x. is_level x (Some (suc k))) here ∙ is-level-itself (suc k)) ∙ h))
      by false h (inr there) rest = rest there

  levels-are : (asked : Bool) (parts : List Requirement) → map (λ (part : Requirement). part.level asked) parts ≡ levels_of asked parts
  levels-are asked [] = refl
  levels-are asked (part ∷ parts) = ap (λ ls. part.level asked ∷ ls) (levels-are asked parts)

  least-need : (asked : Bool) (parts : List Requirement) → AllByRecursion IsServed parts → any_level (levels_of asked parts) ≡ Some (suc k) → HasNeed (least_needs asked parts)
  least-need asked parts all e =
      let level : any_level (map (λ (part : Requirement). part.level asked) parts) ≡ Some (suc k) = ap any_level (levels-are asked parts) ∙ e in
      rw level (first-need asked parts all e)

  and-need : (parts : List Requirement) (asked : Bool) → AllByRecursion IsServed parts → and_level (map level_part parts) asked ≡ Some (suc k) → HasNeed (and_needs parts asked)
  and-need parts true all e = all-need true parts all e
  and-need parts false all e = least-need false parts all e

  or-need : (parts : List Requirement) (asked : Bool) → AllByRecursion IsServed parts → or_level (map level_part parts) asked ≡ Some (suc k) → HasNeed (or_needs parts asked)
  or-need parts true all e = least-need true parts all e
  or-need parts false all e = all-need false parts all e

  alone : (need : Need) → Serves r (at_layer r k) (at_layer r (suc k)) (fired_at r k) need → HasNeed (record { layer = suc k; need = need } ∷ [])
  alone need s = record { need = record { layer = suc k; need = need }; listed = in_first (record { layer = suc k; need = need }) []; layer_is = refl; serves = s }

  -- the leaves that this layer is the first to meet are served
  pub record HasServedLeaves : Type 0 where
    pub atoms : (asked : Bool) (atom : ℕ) → position (atom_is_met atom asked) r.layers ≡ Some (suc k) → HasServer asked atom (fired_at r k)
    pub forms : (want : Want) (number : ℕ) → position (λ layer. form_is_met layer want (form_at r.task number)) r.layers ≡ Some (suc k) → Serves r (at_layer r k) (at_layer r (suc k)) (fired_at r k) (form_need (at_layer r (suc k)) (at_layer r k) want (form_at r.task number))

  module _ (leaves : HasServedLeaves) where
    abbrev requirement : GroundCond → Requirement
    requirement = fold-GroundCond Requirement (require_step r)

    abbrev Claim : GroundCond → Type 0
    Claim c = IsServed (requirement c)

    abbrev Part : Type 0
    Part = (c : GroundCond) × Claim c

    Layered : GroundCond-F GroundCond → Type 0
    Layered x = IsServed (require_step r (map-GroundCond GroundCond Requirement requirement x))

    all-served : (ps : List Part) → AllByRecursion IsServed (map requirement (map (λ p. p.0) ps))
    all-served [] = tt
    all-served (p ∷ ps) = (p.1, all-served ps)

    fact-none : (holds asked : Bool) → level_step r.task r.layers (GroundCond-F.Fact holds) asked ≡ Some (suc k) → ⊥
    fact-none true true e = cc
    fact-none true false e = cc
    fact-none false true e = cc
    fact-none false false e = cc

    level : (y : GroundCond-F Part) → Layered (map-GroundCond Part GroundCond (λ p. p.0) y)
    unfolding Layered
    level (GroundCond-F.Fact holds) = record { needed = λ asked e. absurd (fact-none holds asked e) }
    level GroundCond-F.Neither = record { needed = λ asked e. absurd (cc) }
    level (GroundCond-F.Atom atom) = record { needed = λ asked e. rw e (alone (AtomNeed asked atom) (leaves.atoms asked atom e)) }
    level (GroundCond-F.Compare relation form) = record { needed = λ asked e. rw e (alone (form_need (at_layer r (suc k)) (at_layer r k) (want_of asked relation) (form_at r.task form)) (leaves.forms (want_of asked relation) form e)) }
    level (GroundCond-F.Not part) = record { needed = λ asked e. part.1.needed (not asked) e }
    level (GroundCond-F.And parts) = record { needed = λ asked e. and-need (map requirement (map (λ p. p.0) parts)) asked (all-served parts) e }
    level (GroundCond-F.Or parts) = record { needed = λ asked e. or-need (map requirement (map (λ p. p.0) parts)) asked (all-served parts) e }

    pub condition-served : (c : GroundCond) → Claim c
    unfolding Layered
    condition-served = ind-GroundCond Claim (λ x y is. subst IsServed (sym (fold-roll-GroundCond Requirement (require_step r) x)) (subst (λ z. Layered z) is (level y)))
