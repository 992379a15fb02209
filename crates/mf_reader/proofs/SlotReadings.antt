-- Sections and parts in any order, each at most once: a slot for each is filled by the one that stands.
use Rattle.std.proofs.Common.{◌≡◌, ℕ, true, ◌⊎◌, Option, Some, None, is_none, List, [], ◌∷◌, ◌++◌, refl, ap, sym, subst, inl, inr}
use Rattle.std.specs.List.{AllByRecursion}
use Rattle.mf_model.specs.declared.tree.Tree.{Tree}
use Rattle.mf_model.specs.Forms.{Headed, IsHeaded, IsSection}
use Rattle.mf_reader.proofs.WordReadings.{true_false}

-- A slot, filled by the one item for which `At` holds of something

pub record Fill {X H V : Type 0} (At : H → X → Type 0) (Of : V → H → Type 0) (old : Option V) (x : X) (v : V) : Type 0 where
  pub free : old ≡ None
  pub is : H
  pub at : At is x
  pub of : Of v is

abbrev pub Filled : {X H V : Type 0} → (H → X → Type 0) → (V → H → Type 0) → Option V → Option V → List X → Type 0
Filled At Of old new [] = new ≡ old
Filled {H = H} {V = V} At Of old new (x ∷ xs) =
    ((¬ ((h : H) × At h x)) × Filled At Of old new xs) ⊎ ((v : V) × Fill At Of old x v × Filled At Of (Some v) new xs)

abbrev pub None_at : {X H : Type 0} → (H → X → Type 0) → List X → Type 0
None_at {H = H} At = AllByRecursion (λ x. ¬ ((h : H) × At h x))

pub record One {X H V : Type 0} (At : H → X → Type 0) (Of : V → H → Type 0) (v : V) (xs : List X) : Type 0 where
  pub before : List X
  pub item : X
  pub after : List X
  pub is : H
  pub split : xs ≡ before ++ item ∷ after
  pub at : At is item
  pub of : Of v is
  pub none_before : None_at At before
  pub none_after : None_at At after

abbrev pub Slot : {X H V : Type 0} → (H → X → Type 0) → (V → H → Type 0) → Option V → List X → Type 0
Slot At Of None xs = None_at At xs
Slot At Of (Some v) xs = One At Of v xs

pub is_free : {A : Type 0} (o : Option A) → is_none o ≡ true → o ≡ None
is_free None e = refl
is_free (Some x) e = true_false (sym e)

some_none : {A B : Type 0} (x : A) → Some x ≡ None → B
some_none x e = let h : ⊥ = cc in absurd h

-- a full slot stays
full : {X H V : Type 0} (At : H → X → Type 0) (Of : V → H → Type 0) (v : V) (new : Option V) (xs : List X) → Filled At Of (Some v) new xs → (new ≡ Some v) × None_at At xs
full At Of v new [] h = (h, tt)
full At Of v new (x ∷ xs) h = elim h [
  | inl skip ↦ (let rest = full At Of v new xs skip.1 in (rest.0, (skip.0, rest.1)))
  | inr fill ↦ some_none v fill.1.free
]

full_is : {X H V : Type 0} (At : H → X → Type 0) (Of : V → H → Type 0) (v : V) (xs : List X) → None_at At xs → Filled At Of (Some v) (Some v) xs
full_is At Of v [] h = refl
full_is At Of v (x ∷ xs) h = inl (h.0, full_is At Of v xs h.1)

pub slot_of : {X H V : Type 0} (At : H → X → Type 0) (Of : V → H → Type 0) (new : Option V) (xs : List X) → Filled At Of None new xs → Slot At Of new xs
slot_of {X = X} {H = H} {V = V} At Of new [] h = subst (λ (o : Option V). Slot {X = X} {H = H} {V = V} At Of o []) (sym h) tt
slot_of {X = X} {H = H} {V = V} At Of new (x ∷ xs) h = elim h [
  | inl skip ↦ behind At Of new x xs skip.0 (slot_of At Of new xs skip.1)
  | inr fill ↦ (let rest = full At Of fill.0 new xs fill.2 in
      subst (λ (o : Option V). Slot At Of o (x ∷ xs)) (sym rest.0) (record { before = []; item = x; after = xs; is = fill.1.is; split = refl; at = fill.1.at; of = fill.1.of; none_before = tt; none_after = rest.1 }))
]
  where
    behind : {X H V : Type 0} (At : H → X → Type 0) (Of : V → H → Type 0) (new : Option V) (x : X) (xs : List X) → (¬ ((h : H) × At h x)) → Slot At Of new xs → Slot At Of new (x ∷ xs)
    behind At Of None x xs lacks h = (lacks, h)
    behind At Of (Some v) x xs lacks h = record { before = x ∷ h.before; item = h.item; after = h.after; is = h.is; split = ap (λ ys. x ∷ ys) h.split; at = h.at; of = h.of; none_before = (lacks, h.none_before); none_after = h.none_after }

none_filled : {X H V : Type 0} (At : H → X → Type 0) (Of : V → H → Type 0) (xs : List X) → None_at At xs → Filled {V = V} At Of None None xs
none_filled At Of [] h = refl
none_filled At Of (x ∷ xs) h = inl (h.0, none_filled At Of xs h.1)

one_filled : {X H V : Type 0} (At : H → X → Type 0) (Of : V → H → Type 0) (v : V) (h : H) (before : List X) (item : X) (after : List X) → None_at At before → At h item → Of v h → None_at At after → Filled At Of None (Some v) (before ++ item ∷ after)
one_filled At Of v h [] item after none at of later = inr (v, record { free = refl; is = h; at = at; of = of }, full_is At Of v after later)
one_filled At Of v h (x ∷ before) item after none at of later = inl (none.0, one_filled At Of v h before item after none.1 at of later)

pub filled_of : {X H V : Type 0} (At : H → X → Type 0) (Of : V → H → Type 0) (new : Option V) (xs : List X) → Slot At Of new xs → Filled At Of None new xs
filled_of At Of None xs h = none_filled At Of xs h
filled_of At Of (Some v) xs h = subst (Filled At Of None (Some v)) (sym h.split) (one_filled At Of v h.is h.before h.item h.after h.none_before h.at h.of h.none_after)

-- an item for which `At` does not hold fills nothing
pub skipped : {X H V : Type 0} (At : H → X → Type 0) (Of : V → H → Type 0) (old new : Option V) (x : X) (xs : List X) → (¬ ((h : H) × At h x)) → Filled At Of old new (x ∷ xs) → Filled At Of old new xs
skipped At Of old new x xs lacks h = elim h [
  | inl skip ↦ skip.1
  | inr fill ↦ absurd (lacks (fill.1.is, fill.1.at))
]

-- Sections

abbrev pub Under : List ℕ → Headed → Tree → Type 0
Under key = IsHeaded key

-- the section that fills the slot
abbrev pub OfFound : {V : Type 0} → (V → Headed → Type 0) → Option V → Option Headed → Type 0
OfFound Of None None = Unit {0}
OfFound Of (Some v) (Some h) = Of v h
OfFound Of None (Some h) = ⊥
OfFound Of (Some v) None = ⊥

pub section_of_slot : {V : Type 0} (key : List ℕ) (Of : V → Headed → Type 0) (new : Option V) (ts : List Tree) → Slot (Under key) Of new ts → (found : Option Headed) × IsSection key found ts × OfFound Of new found
section_of_slot key Of None ts h = (None, h, tt)
section_of_slot key Of (Some v) ts h = (Some h.is, record { before = h.before; section = h.item; after = h.after; split = h.split; is = h.at; none_before = h.none_before; none_after = h.none_after }, h.of)

pub slot_of_section : {V : Type 0} (key : List ℕ) (Of : V → Headed → Type 0) (new : Option V) (ts : List Tree) (found : Option Headed) → IsSection key found ts → OfFound Of new found → Slot (Under key) Of new ts
slot_of_section key Of None ts None h of = h
slot_of_section key Of (Some v) ts (Some b) h of = record { before = h.before; item = h.section; after = h.after; is = b; split = h.split; at = h.is; of = of; none_before = h.none_before; none_after = h.none_after }
slot_of_section key Of None ts (Some b) h of = absurd of
slot_of_section key Of (Some v) ts None h of = absurd of
