-- A list that holds the keys of the open states: its least key, and how it changes.
use Rattle.std.proofs.Common.{◌≡◌, ◌≢◌, ◌↔◌, ℕ, ◌+◌, ◌<◌, ◌≤◌, ◌⊎◌, ◌++◌, Bool, true, false, cond, List, [], ◌∷◌, Contains, length, refl, sym, ap, ◌∙◌, inl, inr, ⊎_elim, subst, arith}
use Rattle.std.proofs.lemmas.Bool.{cases_lt}
use Rattle.std.proofs.lemmas.List.{length_push}
use Rattle.std.proofs.lemmas.List.Elements.{Contains-append_left, Contains-push, Contains-push_cases}
use Rattle.mf_search.specs.declared.maker.Maker.{Maker}
use Rattle.mf_search.specs.declared.maker.Maker.TheVariants.{Start, Step}
use Rattle.mf_search.specs.Space.{Space}
use Rattle.mf_search.specs.World.{Opened, at, mark_rank, KeyAtMost}
use Rattle.mf_search.specs.Keys.{KeyFields, is_plain, key_of, FieldsAtMost, OpenIn, HoldsOpen}
use Rattle.mf_search.proofs.Members.{not_in_nil}
use Rattle.mf_search.proofs.Listing.{at_old, at_last}

rank_is : (m : Maker) → mark_rank m ≡ cond (is_plain m) 1 0
rank_is Start = refl
rank_is (Step p n true) = refl
rank_is (Step p n false) = refl

to_fields : (u x i v y j : ℕ) (p q : Bool) → x ≡ cond p 1 0 → y ≡ cond q 1 0 → (u < v) ⊎ (u ≡ v) × (x < y) ⊎ (u ≡ v) × (x ≡ y) × (i ≤ j) → (u < v) ⊎ (u ≡ v) × (p ≡ false) × (q ≡ true) ⊎ (u ≡ v) × (p ≡ q) × (i ≤ j)
to_fields u x i v y j true true a b h = grind arith
to_fields u x i v y j true false a b h = grind arith
to_fields u x i v y j false true a b h = grind arith
to_fields u x i v y j false false a b h = grind arith

from_fields : (u x i v y j : ℕ) (p q : Bool) → x ≡ cond p 1 0 → y ≡ cond q 1 0 → (u < v) ⊎ (u ≡ v) × (p ≡ false) × (q ≡ true) ⊎ (u ≡ v) × (p ≡ q) × (i ≤ j) → (u < v) ⊎ (u ≡ v) × (x < y) ⊎ (u ≡ v) × (x ≡ y) × (i ≤ j)
from_fields u x i v y j true true a b h = grind arith
from_fields u x i v y j true false a b h = grind arith
from_fields u x i v y j false true a b h = grind arith
from_fields u x i v y j false false a b h = grind arith

-- The two orders of keys are one.
pub key_fields : {S : Type 0} (a b : Opened S) (i j : ℕ) → KeyAtMost a i b j ↔ FieldsAtMost (key_of a i) (key_of b j)
key_fields a b i j = (
  λ h. to_fields a.value (mark_rank a.maker) i b.value (mark_rank b.maker) j (is_plain a.maker) (is_plain b.maker) (rank_is a.maker) (rank_is b.maker) h,
  λ h. from_fields a.value (mark_rank a.maker) i b.value (mark_rank b.maker) j (is_plain a.maker) (is_plain b.maker) (rank_is a.maker) (rank_is b.maker) h,
)

-- The least key that is held is that of the open state that comes first.
pub least_held : {S K : Type 0} (sp : Space S) (os : List (Opened S)) (taken : List ℕ) (fields : K → KeyFields) (keys : List K) (key : K) → HoldsOpen sp os taken fields keys → Contains keys key → ((other : K) → Contains keys other → FieldsAtMost (fields key) (fields other)) → OpenIn os taken (fields key).state × ((j : ℕ) → OpenIn os taken j → KeyAtMost (at sp os (fields key).state) (fields key).state (at sp os j) j)
least_held {S} {K} sp os taken fields keys key held h least = (mine.0, λ j o. first j (held.every j o))
  where
    mine : OpenIn os taken (fields key).state × (fields key ≡ key_of (at sp os (fields key).state) (fields key).state)
    mine = held.only key h

    first : (j : ℕ) → ((other : K) × Contains keys other × (fields other ≡ key_of (at sp os j) j)) → KeyAtMost (at sp os (fields key).state) (fields key).state (at sp os j) j
    first j r = (key_fields (at sp os (fields key).state) (at sp os j) (fields key).state j).1
        (subst (λ f. FieldsAtMost f (key_of (at sp os j) j)) mine.1 (subst (λ f. FieldsAtMost (fields key) f) r.2 (least r.0 r.1)))

pub none_held : {S K : Type 0} (sp : Space S) (os : List (Opened S)) (taken : List ℕ) (fields : K → KeyFields) (keys : List K) → HoldsOpen sp os taken fields keys → ((key : K) → Contains keys key → ⊥) → (j : ℕ) → OpenIn os taken j → ⊥
none_held sp os taken fields keys held none j o = let r = held.every j o in none r.0 r.1

-- A state has one key.
pub held_once : {S K : Type 0} (sp : Space S) (os : List (Opened S)) (taken : List ℕ) (fields : K → KeyFields) (keys : List K) (this that : K) → HoldsOpen sp os taken fields keys → Contains keys this → Contains keys that → (fields this).state ≡ (fields that).state → fields this ≡ fields that
held_once sp os taken fields keys this that held h k e = (held.only this h).1 ∙ ap (λ i. key_of (at sp os i) i) e ∙ sym (held.only that k).1

pub holds_nothing : {S K : Type 0} (sp : Space S) (fields : K → KeyFields) → HoldsOpen {S = S} {K = K} sp [] [] fields []
holds_nothing sp fields = record { only = λ key h. absurd (not_in_nil key h); every = λ i o. let low = o.0 in absurd (omega arith) }

-- One state is taken, and its key is taken out.
pub holds_take : {S K : Type 0} (sp : Space S) (os : List (Opened S)) (taken : List ℕ) (fields : K → KeyFields) (keys news : List K) (i : ℕ) → HoldsOpen sp os taken fields keys → ((key : K) → Contains news key ↔ (Contains keys key × ((fields key).state ≢ i))) → HoldsOpen sp os (taken ++ i ∷ []) fields news
holds_take {S} {K} sp os taken fields keys news i held news_are = record {
  only = λ key h. let k = (news_are key).0 h in let o = held.only key k.0 in ((o.0.0, λ t. ⊎_elim o.0.1 (λ (e : i ≡ (fields key).state). k.1 (sym e)) (Contains-push_cases taken i (fields key).state t)), o.1);
  every = λ j o. let r = held.every j (o.0, λ t. o.1 (Contains-append_left taken (i ∷ []) j t)) in
      (r.0, (news_are r.0).1 (r.1, λ e. o.1 (subst (λ t. Contains (taken ++ i ∷ []) t) (sym e ∙ ap (λ (f : KeyFields). f.state) r.2) (Contains-push taken i))), r.2);
}

-- One more state is opened, and its key is put in.
pub holds_push : {S K : Type 0} (sp : Space S) (os : List (Opened S)) (taken : List ℕ) (fields : K → KeyFields) (keys news : List K) (o : Opened S) (new : K) → HoldsOpen sp os taken fields keys → (Contains taken (length os) → ⊥) → fields new ≡ key_of o (length os) → ((key : K) → Contains news key ↔ (Contains keys key ⊎ (key ≡ new))) → HoldsOpen sp (os ++ o ∷ []) taken fields news
holds_push {S} {K} sp os taken fields keys news o new held fresh is news_are = record {
  only = λ key h. only key ((news_are key).0 h);
  every = λ i open_i. every i open_i (cases_lt i (length os));
}
  where
    longer : length (os ++ o ∷ []) ≡ length os + 1
    longer = let l = length_push os o in omega arith

    IsKey : K → Type 0
    IsKey key = OpenIn (os ++ o ∷ []) taken (fields key).state × (fields key ≡ key_of (at sp (os ++ o ∷ []) (fields key).state) (fields key).state)

    place : (fields new).state ≡ length os
    place = ap (λ (f : KeyFields). f.state) is

    mine : IsKey new
    mine = (
      (let e = place in let l = longer in omega arith, λ t. fresh (subst (λ k. Contains taken k) place t)),
      subst (λ i. fields new ≡ key_of (at sp (os ++ o ∷ []) i) i) (sym place) (is ∙ ap (λ (p : Opened S). key_of p (length os)) (sym (at_last sp os o))),
    )

    only : (key : K) → Contains keys key ⊎ (key ≡ new) → IsKey key
    only key (inl h) = let k = held.only key h in let low = k.0.0 in
        ((let l = longer in omega arith, k.0.1), k.1 ∙ ap (λ (p : Opened S). key_of p (fields key).state) (sym (at_old sp os o (fields key).state low)))
    only key (inr e) = subst IsKey (sym e) mine

    every : (i : ℕ) → OpenIn (os ++ o ∷ []) taken i → (i < length os) ⊎ (length os ≤ i) → (key : K) × Contains news key × (fields key ≡ key_of (at sp (os ++ o ∷ []) i) i)
    every i out (inl low) = let r = held.every i (low, out.1) in (r.0, (news_are r.0).1 (inl r.1), r.2 ∙ ap (λ (p : Opened S). key_of p i) (sym (at_old sp os o i low)))
    every i out (inr high) =
        let a = out.0 in let l = longer in let e : length os ≡ i = omega arith in
        (new, (news_are new).1 (inr refl), is ∙ ap (λ j. key_of o j) e ∙ ap (λ (p : Opened S). key_of p i) (sym (at_last sp os o) ∙ ap (at sp (os ++ o ∷ [])) e))
