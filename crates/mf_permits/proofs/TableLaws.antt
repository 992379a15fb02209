-- The tables while states are opened.
use Rattle.std.proofs.Common.{◌≡◌, ℕ, ◌<◌, ◌+◌, ◌++◌, Bool, true, false, List, [], ◌∷◌, Contains, length, get_or, map, take, not, sym, ap, subst, inl, inr, ⊎_elim, rules, ◌∙◌, arith}
use Rattle.std.specs.Prelude.{◌⊎◌, All}
use Rattle.std.proofs.lemmas.List.{length-map, map_push, length_push, take_more}
use Rattle.std.proofs.lemmas.List.Elements.{All-push}
use Rattle.std.proofs.lemmas.Option.{slice_get_within, get_or_from_slice_get}
use Rattle.mf_store.specs.Numbers.{Interns}
use Rattle.mf_store.specs.Rows.{RowLists, HasShape}
use Rattle.mf_store.specs.Stored.{StoredRows, with_row}
use Rattle.mf_open.specs.declared.key.Key.{Key}
use Rattle.mf_open.specs.Keys.{with_key}
use Rattle.mf_open.proofs.Keys.{with_first, with_kept, with_only}
use Rattle.mf_model.specs.declared.state.PlainState.{PlainState}
use Rattle.mf_model.specs.LiveInstances.{live_instances}
use Rattle.mf_search.specs.declared.maker.Maker.{Maker}
use Rattle.mf_search.specs.declared.maker.Maker.TheVariants.{Step}
use Rattle.mf_search.specs.Keys.{KeyFields, key_of}
use Rattle.mf_search.specs.World.{Opened, WasOpened, open_all}
use Rattle.mf_search.proofs.Listing.{opened_in_states}
use Rattle.mf_search.proofs.Members.{in_map, from_map}
use Rattle.mf_search.proofs.OneStep.{child_known, child_new, open_more}
use Rattle.mf_search.proofs.OpenKeys.{holds_push}
use Rattle.mf_task.specs.declared.grown.Child.{Child}
use Rattle.mf_task.specs.declared.value.Value.TheVariants.{Finite}
use Rattle.mf_task.specs.CaseRows.{IsChildOf, IsNarrowRow, child_of, meaning_of, number_of}
use Rattle.mf_task.specs.Successors.{Case, packed_of, space_of}
use Rattle.mf_bridge.specs.StoredRows.{HasWords}
use Rattle.mf_bridge.proofs.DistinctRows.{rows_apart}
use Rattle.mf_bridge.proofs.StateLookups.{packed_is_listed}
use Rattle.mf_permits.specs.declared.tables.Tables.{Tables}
use Rattle.mf_permits.specs.Tables.{AreTables, HasTaskShape, IsKeptRow, IsWhole, OpensChild, OpensList, fields_of, values_of, words_of}

-- Kept rows that stand for one state are one row.
pub told_apart : (case : Case) (one other : RowLists) → IsKeptRow case one → IsKeptRow case other → meaning_of case one ≡ meaning_of case other → one ≡ other
unfolding meaning_of
told_apart case one other a b same =
    rows_apart case.task (packed_of case.task) (packed_is_listed case.task (live_instances case.task)) one other a.narrow.shape b.narrow.shape a.words b.words same

-- A narrow row is of the task's shape.
pub narrow_shape : (case : Case) (row : RowLists) → IsNarrowRow case row → HasTaskShape case row
unfolding words_of values_of
narrow_shape case row narrow = record { words = narrow.shape.words; values = narrow.shape.values }

pub store_shape : (case : Case) (t : Tables) (row : RowLists) → IsWhole case t → HasTaskShape case row → HasShape t.store.word_count t.store.value_count row
store_shape case t row whole shape = record { words = shape.words ∙ sym whole.words; values = shape.values ∙ sym whole.values }

-- There are as many rows as opened states.
pub as_many : (case : Case) (os : List (Opened PlainState)) (taken : List ℕ) (t : Tables) → AreTables case os taken t → length t.store.rows ≡ length os
as_many case os taken t tables = sym (length-map t.store.rows (meaning_of case)) ∙ ap length tables.states ∙ length-map os (λ (o : Opened PlainState). o.state)

-- A state whose row is kept was opened, and no other.

pub row_known : (case : Case) (os : List (Opened PlainState)) (taken : List ℕ) (t : Tables) (row : RowLists) → AreTables case os taken t → Contains t.store.rows row → WasOpened (space_of case) os (meaning_of case row)
row_known case os taken t row tables kept =
    (opened_in_states (space_of case) os (meaning_of case row)).1
    (subst (λ (xs : List PlainState). Contains xs (meaning_of case row)) tables.states (in_map (meaning_of case) t.store.rows row kept))

pub row_kept : (case : Case) (os : List (Opened PlainState)) (taken : List ℕ) (t : Tables) (row : RowLists) → IsWhole case t → IsKeptRow case row → AreTables case os taken t → WasOpened (space_of case) os (meaning_of case row) → Contains t.store.rows row
row_kept case os taken t row whole kept tables opened =
    let found = from_map (meaning_of case) t.store.rows (meaning_of case row)
    (subst (λ (xs : List PlainState). Contains xs (meaning_of case row)) (sym tables.states) ((opened_in_states (space_of case) os (meaning_of case row)).0 opened)) in
    let stored : IsKeptRow case found.0 = subst (IsKeptRow case) found.1.2 (whole.rows found.1.0 found.0 found.1.1) in
    subst (λ (r : RowLists). Contains t.store.rows r) (told_apart case found.0 row stored kept found.2) found.1

-- What a store answers of a row that is known, and of a new one.

pub known_row : (old new : StoredRows) (row : RowLists) (n : ℕ) (b : Bool) → Interns old row new (n, b) → b ≡ false → Contains old.rows row × (new ≡ old)
known_row old new row n true interned e = absurd (search rules)
known_row old new row n false interned e = ((n, slice_get_within old.rows n row interned.0, get_or_from_slice_get old.rows n row row interned.0), interned.1)

pub new_row : (old new : StoredRows) (row : RowLists) (n : ℕ) (b : Bool) → Interns old row new (n, b) → b ≡ true → (Contains old.rows row → ⊥) × (n ≡ length old.rows) × (new ≡ with_row old row)
new_row old new row n false interned e = absurd (search rules)
new_row old new row n true interned e = interned

pub unknown_row : (old new : StoredRows) (row : RowLists) (n : ℕ) (b : Bool) → Interns old row new (n, b) → (Contains old.rows row → ⊥) → (n ≡ length old.rows) × (new ≡ with_row old row)
unknown_row old new row n true interned out = (interned.1, interned.2)
unknown_row old new row n false interned out = absurd (out (n, slice_get_within old.rows n row interned.0, get_or_from_slice_get old.rows n row row interned.0))

-- The row, the value, the maker and the key of one more state are entered.
pub record Enters (row : RowLists) (value : ℕ) (maker : Maker) (key : Key) (old new : Tables) : Type 0 where
  pub is_new : Contains old.store.rows row → ⊥
  pub number : key.state ≡ length old.store.rows
  pub rows : new.store ≡ with_row old.store row
  pub values : new.values.items ≡ old.values.items ++ value ∷ []
  pub makers : new.makers.items ≡ old.makers.items ++ maker ∷ []
  pub keys : new.open_list.keys ≡ with_key key old.open_list.keys

enters_rows : (row : RowLists) (value : ℕ) (maker : Maker) (key : Key) (old new : Tables) → Enters row value maker key old new → new.store.rows ≡ old.store.rows ++ row ∷ []
enters_rows row value maker key old new enters = ap (λ (s : StoredRows). s.rows) enters.rows

pub whole_after : (case : Case) (row : RowLists) (value : ℕ) (maker : Maker) (key : Key) (old new : Tables) → IsWhole case old → IsKeptRow case row → Enters row value maker key old new → IsWhole case new
whole_after case row value maker key old new whole kept enters = record {
  words = ap (λ (s : StoredRows). s.word_count) enters.rows ∙ whole.words;
  values = ap (λ (s : StoredRows). s.value_count) enters.rows ∙ whole.values;
  rows = subst (λ (rs : List RowLists). All (IsKeptRow case) rs) (sym (enters_rows row value maker key old new enters)) (All-push (IsKeptRow case) old.store.rows row whole.rows kept);
  keys = λ k held. below k (with_only key k old.open_list.keys (subst (λ (ks : List Key). Contains ks k) enters.keys held));
}
  where
    longer : length new.store.rows ≡ length old.store.rows + 1
    longer = ap length (enters_rows row value maker key old new enters) ∙ length_push old.store.rows row

    below : (k : Key) → (key ≡ k) ⊎ Contains old.open_list.keys k → k.state < length new.store.rows
    below k (inl e) = let n : key.state ≡ k.state = ap (λ (x : Key). x.state) e in let m = enters.number in let l = longer in omega arith
    below k (inr held) = let low = whole.keys k held in let l = longer in omega arith

-- No key is that of a state that is yet to come.
pub key_is_new : (case : Case) (t : Tables) (key : Key) → IsWhole case t → key.state ≡ length t.store.rows → Contains t.open_list.keys key → ⊥
key_is_new case t key whole number held = let low = whole.keys key held in omega arith

-- A new state is opened.
pub tables_push : (case : Case) (row : RowLists) (value : ℕ) (maker : Maker) (key : Key) (old new : Tables) (os : List (Opened PlainState)) (taken : List ℕ) →
    Enters row value maker key old new → fields_of key ≡ key_of (record { state = meaning_of case row; value = value; maker = maker }) (length os) → AreTables case os taken old →
    AreTables case (os ++ record { state = meaning_of case row; value = value; maker = maker } ∷ []) taken new
tables_push case row value maker key old new os taken enters is t = record {
  within = λ i h. let low = t.within i h in let l = length_push os o in omega arith;
  states = ap (map (meaning_of case)) (enters_rows row value maker key old new enters) ∙ map_push (meaning_of case) old.store.rows row
      ∙ ap (λ (xs : List PlainState). xs ++ meaning_of case row ∷ []) t.states ∙ sym (map_push (λ (x : Opened PlainState). x.state) os o);
  values = enters.values ∙ ap (λ (xs : List ℕ). xs ++ value ∷ []) t.values ∙ sym (map_push (λ (x : Opened PlainState). x.value) os o);
  makers = enters.makers ∙ ap (λ (xs : List Maker). xs ++ maker ∷ []) t.makers ∙ sym (map_push (λ (x : Opened PlainState). x.maker) os o);
  open_keys = holds_push (space_of case) os taken fields_of old.open_list.keys new.open_list.keys o key t.open_keys (λ h. let low = t.within (length os) h in omega arith) is (λ k. (there k, back k));
}
  where
    o : Opened PlainState
    o = record { state = meaning_of case row; value = value; maker = maker }

    there : (k : Key) → Contains new.open_list.keys k → Contains old.open_list.keys k ⊎ (k ≡ key)
    there k held = ⊎_elim (λ (e : key ≡ k). inr (sym e)) (λ h. inl h) (with_only key k old.open_list.keys (subst (λ (ks : List Key). Contains ks k) enters.keys held))

    back : (k : Key) → Contains old.open_list.keys k ⊎ (k ≡ key) → Contains new.open_list.keys k
    back k (inl h) = subst (λ (ks : List Key). Contains ks k) (sym enters.keys) (with_kept key k old.open_list.keys h)
    back k (inr e) = subst (λ (x : Key). Contains new.open_list.keys x) (sym e) (subst (λ (ks : List Key). Contains ks key) (sym enters.keys) (with_first key old.open_list.keys))

-- A child is opened: known ones are passed over.

pub child_passed : (case : Case) (p : ℕ) (child : Child) (old new : Tables) → Contains old.store.rows child.row → new ≡ old → OpensChild case p child old new
child_passed case p child old new kept same os taken t =
    subst (λ (os : List (Opened PlainState)). AreTables case os taken new) (sym (child_known (space_of case) p (child_of case child) os (row_known case os taken old child.row t kept)))
    (subst (AreTables case os taken) (sym same) t)

pub child_entered : (case : Case) (p : ℕ) (child : Child) (value state : ℕ) (old new : Tables) → IsWhole case old → IsChildOf case child → HasWords child.row → child.value ≡ Finite value →
    Enters child.row value (Step p child.instance child.helpful) (record { value = value; plain = not child.helpful; state = state }) old new → OpensChild case p child old new
child_entered case p child value state old new whole is words finite enters os taken t =
    subst (λ (os : List (Opened PlainState)). AreTables case os taken new)
    (sym (child_new (space_of case) p (child_of case child) os value (λ opened. enters.is_new (row_kept case os taken old child.row whole (record { narrow = is.row_is; words = words }) t opened)) (is.value_is.value_is ∙ ap number_of finite)))
    (tables_push case child.row value (Step p child.instance child.helpful) (record { value = value; plain = not child.helpful; state = state }) old new os taken enters
    (ap (λ (n : ℕ). fields n) (enters.number ∙ as_many case os taken old t)) t)
  where
    fields : ℕ → KeyFields
    fields n = record { value = value; plain = not child.helpful; state = n }

-- One child more.
pub children_more : (case : Case) (p : ℕ) (children : List Child) (i : ℕ) (child : Child) (first old new : Tables) → i < length children → child ≡ get_or children i child → OpensList case p (take i children) first old → OpensChild case p child old new → OpensList case p (take (i + 1) children) first new
children_more case p children i child first old new low is before one os taken t =
    let longer : take (i + 1) children ≡ take i children ++ child ∷ [] = take_more children i child low ∙ ap (λ (c : Child). take i children ++ c ∷ []) (sym is) in
    subst (λ (cs : List Child). AreTables case (open_all (space_of case) p (map (child_of case) cs) os) taken new) (sym longer)
    (rw (map_push (child_of case) (take i children) child, open_more (space_of case) p (map (child_of case) (take i children)) (child_of case child) os)
    (one (open_all (space_of case) p (map (child_of case) (take i children)) os) taken (before os taken t)))
