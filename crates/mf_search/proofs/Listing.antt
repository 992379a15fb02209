-- Opened states against lists of their parts, and what workers have in expansion against a list.
use Rattle.std.proofs.Common.{◌≡◌, ◌↔◌, ℕ, zero, suc, ◌<◌, ◌≤◌, ◌⊎◌, ◌-◌, ◌++◌, List, [], ◌∷◌, Option, None, Contains, length, get_or, set, map, refl, sym, ap, ◌∙◌, inl, inr, subst, arith, get_or-set_same, get_or-set_other}
use Rattle.std.proofs.Math.ListN.{get_or-map}
use Rattle.std.proofs.lemmas.Bool.{cases_eq, cases_lt}
use Rattle.std.proofs.lemmas.List.{get_or_push, get_or_append_left, get_or_default, get_or_past}
use Rattle.std.proofs.lemmas.List.Elements.{Contains-get_or}
use Rattle.mf_search.specs.declared.maker.Maker.TheVariants.{Start}
use Rattle.mf_search.specs.Space.{Space}
use Rattle.mf_search.specs.World.{Opened, WasOpened, at, put}
use Rattle.mf_search.specs.Columns.{held_by}
use Rattle.mf_search.proofs.Members.{in_map, from_map}
use Rattle.mf_search.proofs.Sound.{put_same, put_other}

pub state_of_at : {S : Type 0} (sp : Space S) (os : List (Opened S)) (i : ℕ) → get_or (map (λ (o : Opened S). o.state) os) i sp.start ≡ (at sp os i).state
state_of_at {S} sp os i = get_or-map (λ (o : Opened S). o.state) os i (record { state = sp.start; value = 0; maker = Start })

pub value_of_at : {S : Type 0} (sp : Space S) (os : List (Opened S)) (i : ℕ) → get_or (map (λ (o : Opened S). o.value) os) i 0 ≡ (at sp os i).value
value_of_at {S} sp os i = get_or-map (λ (o : Opened S). o.value) os i (record { state = sp.start; value = 0; maker = Start })

pub maker_of_at : {S : Type 0} (sp : Space S) (os : List (Opened S)) (i : ℕ) → get_or (map (λ (o : Opened S). o.maker) os) i Start ≡ (at sp os i).maker
maker_of_at {S} sp os i = get_or-map (λ (o : Opened S). o.maker) os i (record { state = sp.start; value = 0; maker = Start })

pub at_old : {S : Type 0} (sp : Space S) (os : List (Opened S)) (o : Opened S) (i : ℕ) → i < length os → at sp (os ++ o ∷ []) i ≡ at sp os i
at_old sp os o i low = get_or_append_left os (o ∷ []) (record { state = sp.start; value = 0; maker = Start }) i low

pub at_last : {S : Type 0} (sp : Space S) (os : List (Opened S)) (o : Opened S) → at sp (os ++ o ∷ []) (length os) ≡ o
at_last sp os o = get_or_push os o (record { state = sp.start; value = 0; maker = Start }) (length os) refl

-- A state was opened exactly where it occurs in the list of states.
pub opened_in_states : {S : Type 0} (sp : Space S) (os : List (Opened S)) (x : S) → WasOpened sp os x ↔ Contains (map (λ (o : Opened S). o.state) os) x
opened_in_states {S} sp os x = (λ w. subst (λ t. Contains (map (λ (o : Opened S). o.state) os) t) w.2 (in_map (λ (o : Opened S). o.state) os (at sp os w.0) (Contains-get_or os w.0 (record { state = sp.start; value = 0; maker = Start }) w.1)), back)
  where
    place : (n : ℕ) (y : Opened S) → n < length os → get_or os n y ≡ y → at sp os n ≡ y
    place n y l e = get_or_default os n (record { state = sp.start; value = 0; maker = Start }) y l ∙ e

    back : Contains (map (λ (o : Opened S). o.state) os) x → WasOpened sp os x
    back h = let o = from_map (λ (o : Opened S). o.state) os x h in let k = o.1 in (k.0, k.1, ap (λ (t : Opened S). t.state) (place k.0 o.0 k.1 k.2) ∙ o.2)

-- A change of one worker is a change of its place in the list.
pub put_in_list : (busy : ℕ → Option ℕ) (kept : List (Option ℕ)) (worker : ℕ) (held : Option ℕ) (v : ℕ) → 1 ≤ worker → worker ≤ length kept → ((u : ℕ) → busy u ≡ held_by kept u) → put busy worker held v ≡ held_by (set kept (worker - 1) held) v
put_in_list busy kept zero held v low high is = absurd (omega arith)
put_in_list busy kept (suc k) held v low high is = let e : suc k - 1 ≡ k = omega arith in rw e (go v (cases_eq v (suc k)))
  where
    go : (u : ℕ) → (u ≡ suc k) ⊎ (u ≡ suc k → ⊥) → put busy (suc k) held u ≡ held_by (set kept k held) u
    go u (inl e) = subst (λ t. put busy (suc k) held t ≡ held_by (set kept k held) t) (sym e) (put_same busy (suc k) held ∙ sym (get_or-set_same kept k held None (omega arith)))
    go zero (inr other) = put_other busy (suc k) held zero other ∙ is zero
    go (suc j) (inr other) = put_other busy (suc k) held (suc j) other ∙ is (suc j) ∙ sym (get_or-set_other kept k j held None (λ e. other (ap (λ t. suc t) e)))

-- Where each place of the list is empty nothing is in expansion.
pub nothing_held : (kept : List (Option ℕ)) → ((k : ℕ) → k < length kept → get_or kept k None ≡ None) → (v : ℕ) → held_by kept v ≡ None
nothing_held kept none zero = refl
nothing_held kept none (suc k) = go (cases_lt k (length kept))
  where
    go : (k < length kept) ⊎ (length kept ≤ k) → get_or kept k None ≡ None
    go (inl low) = none k low
    go (inr high) = get_or_past kept k None high
