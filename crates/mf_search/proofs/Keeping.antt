-- Opened states kept as columns: what they say of each state, and how they change.
use Rattle.std.proofs.Common.{◌≡◌, ◌↔◌, ℕ, ◌+◌, ◌<◌, ◌≤◌, ◌⊎◌, ◌++◌, Bool, true, false, List, [], ◌∷◌, Option, Some, None, Contains, length, get_or, set, refl, sym, ap, ◌∙◌, inl, inr, ⊎_elim, subst, arith, length-set, get_or-set_same, get_or-set_other}
use Rattle.std.proofs.lemmas.Bool.{false≢true, cases_lt, cases_eq}
use Rattle.std.proofs.lemmas.List.{length_push, get_or_push, get_or_append_left, map_push, get_or-map}
use Rattle.std.proofs.lemmas.List.Elements.{Contains-append_left, Contains-push, Contains-push_cases}
use Rattle.mf_search.specs.declared.maker.Maker.{Maker}
use Rattle.mf_search.specs.declared.maker.Maker.TheVariants.{Start}
use Rattle.mf_search.specs.Space.{Space}
use Rattle.mf_search.specs.World.{Opened, World, WasOpened, at, IsOpen, KeyAtMost}
use Rattle.mf_search.specs.Columns.{Columns, IsLeastOpen}
use Rattle.mf_search.proofs.Listing.{opened_in_states}
use Rattle.mf_search.proofs.KeyOrder.{key_refl, key_trans}

pub state_at : {S : Type 0} (sp : Space S) (os : List (Opened S)) (taken : List ℕ) (states : List S) (values : List ℕ) (makers : List Maker) (flags : List Bool) (i : ℕ) (d : S) → Columns os taken states values makers flags → i < length os → (at sp os i).state ≡ get_or states i d
state_at {S} sp os taken states values makers flags i d c low = sym (rw c.states_are (get_or-map (λ (o : Opened S). o.state) os i (record { state = sp.start; value = 0; maker = Start }) d low))

pub value_at : {S : Type 0} (sp : Space S) (os : List (Opened S)) (taken : List ℕ) (states : List S) (values : List ℕ) (makers : List Maker) (flags : List Bool) (i : ℕ) (d : ℕ) → Columns os taken states values makers flags → i < length os → (at sp os i).value ≡ get_or values i d
value_at {S} sp os taken states values makers flags i d c low = sym (rw c.values_are (get_or-map (λ (o : Opened S). o.value) os i (record { state = sp.start; value = 0; maker = Start }) d low))

pub maker_at : {S : Type 0} (sp : Space S) (os : List (Opened S)) (taken : List ℕ) (states : List S) (values : List ℕ) (makers : List Maker) (flags : List Bool) (i : ℕ) (d : Maker) → Columns os taken states values makers flags → i < length os → (at sp os i).maker ≡ get_or makers i d
maker_at {S} sp os taken states values makers flags i d c low = sym (rw c.makers_are (get_or-map (λ (o : Opened S). o.maker) os i (record { state = sp.start; value = 0; maker = Start }) d low))

-- A state of a cleared flag is open.
pub open_at : {S : Type 0} (w : World S) (states : List S) (values : List ℕ) (makers : List Maker) (flags : List Bool) (i : ℕ) → Columns w.opened w.taken states values makers flags → i < length w.opened → get_or flags i false ≡ false → IsOpen w i
open_at w states values makers flags i c low e = (low, λ h. false≢true (sym e ∙ (c.flags_are i low).1 h))

-- A state was opened exactly where it stands in the column of states.
pub opened_in : {S : Type 0} (sp : Space S) (os : List (Opened S)) (taken : List ℕ) (states : List S) (values : List ℕ) (makers : List Maker) (flags : List Bool) (x : S) → Columns os taken states values makers flags → WasOpened sp os x ↔ Contains states x
opened_in sp os taken states values makers flags x c = rw c.states_are (opened_in_states sp os x)

pub columns_first : {S : Type 0} → Columns {S = S} [] [] [] [] [] []
columns_first = record { states_are = refl; values_are = refl; makers_are = refl; flags_len = refl; flags_are = λ i h. absurd (omega arith) }

-- One more opened state.
pub columns_push : {S : Type 0} (os : List (Opened S)) (taken : List ℕ) (states : List S) (values : List ℕ) (makers : List Maker) (flags : List Bool) (o : Opened S) → (Contains taken (length os) → ⊥) → Columns os taken states values makers flags → Columns (os ++ o ∷ []) taken (states ++ o.state ∷ []) (values ++ o.value ∷ []) (makers ++ o.maker ∷ []) (flags ++ false ∷ [])
columns_push {S} os taken states values makers flags o new c = record {
  states_are = ap (λ xs. xs ++ o.state ∷ []) c.states_are ∙ sym (map_push (λ (t : Opened S). t.state) os o);
  values_are = ap (λ xs. xs ++ o.value ∷ []) c.values_are ∙ sym (map_push (λ (t : Opened S). t.value) os o);
  makers_are = ap (λ xs. xs ++ o.maker ∷ []) c.makers_are ∙ sym (map_push (λ (t : Opened S). t.maker) os o);
  flags_len = (let a = length_push flags false in let b = length_push os o in let e = c.flags_len in omega arith);
  flags_are = λ i low. flags_are i low (cases_lt i (length os));
}
  where
    flags_are : (i : ℕ) → i < length (os ++ o ∷ []) → (i < length os) ⊎ (length os ≤ i) → (get_or (flags ++ false ∷ []) i false ≡ true) ↔ Contains taken i
    flags_are i low (inl l) = let e = c.flags_len in let k : i < length flags = omega arith in rw (get_or_append_left flags (false ∷ []) false i k) (c.flags_are i l)
    flags_are i low (inr l) =
        let b = length_push os o in let e = c.flags_len in
        let k : length flags ≡ i = omega arith in let m : i ≡ length os = omega arith in
        (λ h. absurd (false≢true (sym (get_or_push flags false false i k) ∙ h)), λ h. absurd (new (subst (λ t. Contains taken t) m h)))

-- One more taken state.
pub columns_take : {S : Type 0} (os : List (Opened S)) (taken : List ℕ) (states : List S) (values : List ℕ) (makers : List Maker) (flags : List Bool) (i : ℕ) → i < length os → Columns os taken states values makers flags → Columns os (taken ++ i ∷ []) states values makers (set flags i true)
columns_take {S} os taken states values makers flags i low c = record {
  states_are = c.states_are;
  values_are = c.values_are;
  makers_are = c.makers_are;
  flags_len = length-set flags i true ∙ c.flags_len;
  flags_are = λ k l. flags_are k l (cases_eq k i);
}
  where
    here : i < length flags
    here = let e = c.flags_len in omega arith

    flags_are : (k : ℕ) → k < length os → (k ≡ i) ⊎ (k ≡ i → ⊥) → (get_or (set flags i true) k false ≡ true) ↔ Contains (taken ++ i ∷ []) k
    flags_are k l (inl e) = (λ h. subst (λ t. Contains (taken ++ i ∷ []) t) (sym e) (Contains-push taken i), λ h. subst (λ t. get_or (set flags i true) t false ≡ true) (sym e) (get_or-set_same flags i true false here))
    flags_are k l (inr other) = rw (get_or-set_other flags i k true false other)
        (λ h. Contains-append_left taken (i ∷ []) k ((c.flags_are k l).0 h), λ h. (c.flags_are k l).1 (⊎_elim (λ a. a) (λ (e : i ≡ k). absurd (other (sym e))) (Contains-push_cases taken i k h)))

-- The search of the first n opened states for the open one of least key, one state more.
pub least_closed : {S : Type 0} (sp : Space S) (os : List (Opened S)) (taken : List ℕ) (n : ℕ) (best : Option ℕ) → Contains taken n → IsLeastOpen sp os taken n best → IsLeastOpen sp os taken (n + 1) best
least_closed sp os taken n None h least = λ j low. ⊎_elim (least j) (λ l. let same : n ≡ j = omega arith in subst (λ t. Contains taken t) same h) (cases_lt j n)
least_closed {S} sp os taken n (Some i) h least = ((let l = least.0 in omega arith), least.1, λ j low out. ⊎_elim (λ l. least.2 j l out) (λ l. let same : n ≡ j = omega arith in absurd (out (subst (λ t. Contains taken t) same h))) (cases_lt j n))

pub least_first : {S : Type 0} (sp : Space S) (os : List (Opened S)) (taken : List ℕ) (n : ℕ) → (Contains taken n → ⊥) → IsLeastOpen sp os taken n None → IsLeastOpen sp os taken (n + 1) (Some n)
least_first {S} sp os taken n out least = (omega arith, out, λ j low untaken. ⊎_elim (λ l. absurd (untaken (least j l))) (λ l. let same : n ≡ j = omega arith in subst (λ t. KeyAtMost (at sp os n) n (at sp os t) t) same (key_refl (at sp os n) n)) (cases_lt j n))

pub least_better : {S : Type 0} (sp : Space S) (os : List (Opened S)) (taken : List ℕ) (n i : ℕ) → (Contains taken n → ⊥) → KeyAtMost (at sp os n) n (at sp os i) i → IsLeastOpen sp os taken n (Some i) → IsLeastOpen sp os taken (n + 1) (Some n)
least_better {S} sp os taken n i out key least = (omega arith, out, λ j low untaken. ⊎_elim (λ l. key_trans (at sp os n) n (at sp os i) i (at sp os j) j key (least.2 j l untaken)) (λ l. let same : n ≡ j = omega arith in subst (λ t. KeyAtMost (at sp os n) n (at sp os t) t) same (key_refl (at sp os n) n)) (cases_lt j n))

pub least_worse : {S : Type 0} (sp : Space S) (os : List (Opened S)) (taken : List ℕ) (n i : ℕ) → KeyAtMost (at sp os i) i (at sp os n) n → IsLeastOpen sp os taken n (Some i) → IsLeastOpen sp os taken (n + 1) (Some i)
least_worse {S} sp os taken n i key least = ((let l = least.0 in omega arith), least.1, λ j low untaken. ⊎_elim (λ l. least.2 j l untaken) (λ l. let same : n ≡ j = omega arith in subst (λ t. KeyAtMost (at sp os i) i (at sp os t) t) same key) (cases_lt j n))
