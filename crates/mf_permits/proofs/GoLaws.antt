-- The ledger after a take.
use Rattle.std.proofs.Common.{◌≡◌, ◌≢◌, ℕ, ◌<◌, ◌≤◌, ◌+◌, ◌-◌, ◌++◌, true, false, List, [], ◌∷◌, Contains, Option, length, get_or, map, drop, set, Some, None, refl, sym, ap, subst, ⊎_elim, rules, ◌∙◌, arith}
use Rattle.std.specs.Prelude.{◌⊎◌, ◌↔◌, slice_get, vec_capacity}
use Rattle.std.specs.List.{All}
use Rattle.std.proofs.lemmas.List.{length_push, length-map, length-set}
use Rattle.std.proofs.lemmas.List.Elements.{Contains-push_cases}
use Rattle.mf_store.specs.Stored.{StoredRows}
use Rattle.mf_open.specs.declared.key.Key.{Key}
use Rattle.mf_open.specs.Keys.{IsRising}
use Rattle.mf_open.proofs.Keys.{first_gone, first_kept, first_only, first_there, none_there}
use Rattle.mf_model.specs.declared.state.PlainState.{PlainState}
use Rattle.mf_search.specs.declared.entry.Entry.{Entry}
use Rattle.mf_search.specs.declared.entry.Entry.TheVariants.{Take}
use Rattle.mf_search.specs.Columns.{held_by}
use Rattle.mf_search.specs.Keys.{OpenIn}
use Rattle.mf_search.specs.World.{KeyAtMost, Legal, Opened, World, at, world}
use Rattle.mf_search.proofs.KeyOrder.{key_antisym}
use Rattle.mf_search.proofs.Listing.{put_in_list}
use Rattle.mf_search.proofs.OneStep.{legal_push, next_goal, next_take, world_push}
use Rattle.mf_search.proofs.OpenKeys.{held_once, holds_take}
use Rattle.mf_task.specs.CaseRows.{meaning_of}
use Rattle.mf_task.specs.Successors.{Case, space_of}
use Rattle.mf_permits.specs.declared.ledger.End.TheVariants as ends
use Rattle.mf_permits.specs.declared.ledger.Ledger.{Ledger}
use Rattle.mf_permits.specs.declared.tables.Tables.{Tables}
use Rattle.mf_permits.specs.Core.{MayCome, value_in, world_of}
use Rattle.mf_permits.specs.Ledger.{Keeps, Shows, ending_of, idle_count, is_going, seen_of}
use Rattle.mf_permits.specs.Tables.{AreTables, IsKeptRow, IsWhole, fields_of}
use Rattle.mf_permits.proofs.TakeLaws.{first_is_least, going_is, held_at, idle_set, value_kept}

-- The least key leaves the tables.
pub record Leaves (old new : Tables) : Type 0 where
  pub store : new.store ≡ old.store
  pub values : new.values.items ≡ old.values.items
  pub makers : new.makers.items ≡ old.makers.items
  pub keys : new.open_list.keys ≡ drop 1 old.open_list.keys
  pub rising : IsRising old.open_list.keys

pub whole_leaves : (case : Case) (old new : Tables) → Leaves old new → IsWhole case old → IsWhole case new
whole_leaves case old new leaves whole = record {
  words = ap (λ (s : StoredRows). s.word_count) leaves.store ∙ whole.words;
  values = ap (λ (s : StoredRows). s.value_count) leaves.store ∙ whole.values;
  rows = subst (λ (s : StoredRows). All (IsKeptRow case) s.rows) (sym leaves.store) whole.rows;
  keys = λ k held. subst (λ (s : StoredRows). k.state < length s.rows) (sym leaves.store)
      (whole.keys k (first_only k old.open_list.keys (subst (λ (ks : List Key). Contains ks k) leaves.keys held)));
}

-- The state that comes first is taken.
pub tables_take : (case : Case) (os : List (Opened PlainState)) (taken : List ℕ) (i : ℕ) (old new : Tables) → Leaves old new → AreTables case os taken old → OpenIn os taken i →
    ((j : ℕ) → OpenIn os taken j → KeyAtMost (at (space_of case) os i) i (at (space_of case) os j) j) → AreTables case os (taken ++ i ∷ []) new
tables_take case os taken i old new leaves t is_open least = go (slice_get old.open_list.keys 0) refl
  where
    within : (k : ℕ) → Contains (taken ++ i ∷ []) k → k < length os
    within k held = ⊎_elim (t.within k) (λ (e : i ≡ k). subst (λ (n : ℕ). n < length os) e is_open.0) (Contains-push_cases taken i k held)

    taken_out : (key : Key) → slice_get old.open_list.keys 0 ≡ Some key → (k : Key) → Contains new.open_list.keys k ↔ (Contains old.open_list.keys k × ((fields_of k).state ≢ i))
    taken_out key first k = (there, back)
      where
        mine : OpenIn os taken key.state × ((j : ℕ) → OpenIn os taken j → KeyAtMost (at (space_of case) os key.state) key.state (at (space_of case) os j) j)
        mine = first_is_least case os taken old key t leaves.rising first

        same : key.state ≡ i
        same = key_antisym (at (space_of case) os key.state) key.state (at (space_of case) os i) i (mine.1 i is_open) (least key.state mine.0)

        is_key : (a b : Key) → fields_of a ≡ fields_of b → a ≡ b
        is_key a b e = λ n. record { value = (e n).value; plain = (e n).plain; state = (e n).state }

        there : Contains new.open_list.keys k → Contains old.open_list.keys k × ((fields_of k).state ≢ i)
        there held =
            let rest = subst (λ (ks : List Key). Contains ks k) leaves.keys held in
            let before = first_only k old.open_list.keys rest in (
              before,
              λ (e : k.state ≡ i). first_gone key old.open_list.keys leaves.rising first
                  (subst (λ (x : Key). Contains (drop 1 old.open_list.keys) x) (is_key k key (held_once (space_of case) os taken fields_of old.open_list.keys k key t.open_keys before (first_there key old.open_list.keys first) (e ∙ sym same))) rest),
            )

        back : Contains old.open_list.keys k × ((fields_of k).state ≢ i) → Contains new.open_list.keys k
        back held = ⊎_elim (λ (e : key ≡ k). absurd (held.1 (ap (λ (x : Key). x.state) (sym e) ∙ same)))
            (λ rest. subst (λ (ks : List Key). Contains ks k) (sym leaves.keys) rest) (first_kept key k old.open_list.keys first held.0)

    go : (first : Option Key) → slice_get old.open_list.keys 0 ≡ first → AreTables case os (taken ++ i ∷ []) new
    go None none = let r = t.open_keys.every i is_open in absurd (none_there r.0 old.open_list.keys none r.1)
    go (Some key) first = record {
      within = within;
      states = ap (λ (s : StoredRows). map (meaning_of case) s.rows) leaves.store ∙ t.states;
      values = leaves.values ∙ t.values;
      makers = leaves.makers ∙ t.makers;
      open_keys = holds_take (space_of case) os taken fields_of old.open_list.keys new.open_list.keys i t.open_keys (taken_out key first);
    }

-- What a take changes.
pub record Goes (worker state : ℕ) (old new : Ledger) : Type 0 where
  pub tables : Leaves old.tables new.tables
  pub entries : new.entries.items ≡ old.entries.items ++ Take worker state ∷ []
  pub capacity : vec_capacity new.entries ≡ vec_capacity old.entries
  pub takes : new.takes ≡ old.takes + 1
  pub budget : new.budget ≡ old.budget

legal_after : (case : Case) (worker state : ℕ) (old new : Ledger) → Keeps case old → MayCome case (seen_of old) (Take worker state) → Goes worker state old new → length new.busy.items ≡ length old.busy.items → Legal (space_of case) case.budget (length new.busy.items) new.entries.items
legal_after case worker state old new keeps may goes as_many =
    subst (λ (es : List Entry). Legal (space_of case) case.budget (length new.busy.items) es) (sym goes.entries)
    (subst (λ (n : ℕ). Legal (space_of case) case.budget n (old.entries.items ++ Take worker state ∷ [])) (sym as_many)
    (legal_push (space_of case) case.budget (length old.busy.items) old.entries.items (Take worker state) keeps.legal may))

takes_after : (case : Case) (worker state : ℕ) (old new : Ledger) → Keeps case old → Goes worker state old new → new.takes ≡ length ((world_of case (seen_of old)).taken ++ state ∷ [])
takes_after case worker state old new keeps goes = let t = goes.takes in let s = keeps.shows.takes in let l = length_push (world_of case (seen_of old)).taken state in omega arith

-- A goal was taken.
pub keeps_goal : (case : Case) (worker state : ℕ) (old new : Ledger) → Keeps case old → MayCome case (seen_of old) (Take worker state) → get_or old.tables.values.items state 0 ≡ 0 → Goes worker state old new →
    new.busy.items ≡ old.busy.items → new.end ≡ ends.Goal state → Keeps case new
keeps_goal case worker state old new keeps may zero goes busy end = record {
  legal = legal_after case worker state old new keeps may goes (ap length busy);
  shows = subst (λ (w : World PlainState). Shows case w new) (sym (ap (world (space_of case)) goes.entries ∙ world_push (space_of case) old.entries.items (Take worker state) ∙ next_goal (space_of case) w worker state goal)) (record {
    tables = tables_take case w.opened w.taken state old.tables new.tables goes.tables keeps.shows.tables may.is_open may.least;
    busy = λ v. keeps.shows.busy v ∙ ap (λ (b : List (Option ℕ)). held_by b v) (sym busy);
    takes = takes_after case worker state old new keeps goes;
    ending = sym (ap ending_of end);
    budget = goes.budget ∙ keeps.shows.budget;
  });
  whole = whole_leaves case old.tables new.tables goes.tables keeps.whole;
  room = λ going. let both : false ≡ true = sym (ap is_going end) ∙ going in absurd (search rules);
  some = subst (λ (b : List (Option ℕ)). 1 ≤ length b) (sym busy) keeps.some;
  few = subst (λ (b : List (Option ℕ)). length b ≤ 64) (sym busy) keeps.few;
}
  where
    w : World PlainState
    w = world_of case (seen_of old)

    goal : value_in case w state ≡ 0
    goal = sym (value_kept case w old state keeps.shows) ∙ zero

-- Another state was taken, and is in expansion.
pub keeps_held : (case : Case) (worker state : ℕ) (old new : Ledger) → Keeps case old → MayCome case (seen_of old) (Take worker state) → get_or old.tables.values.items state 0 ≢ 0 → Goes worker state old new →
    new.busy.items ≡ set old.busy.items (worker - 1) (Some state) → new.end ≡ old.end → Keeps case new
keeps_held case worker state old new keeps may other goes busy end = record {
  legal = legal_after case worker state old new keeps may goes as_many;
  shows = subst (λ (w : World PlainState). Shows case w new) (sym (ap (world (space_of case)) goes.entries ∙ world_push (space_of case) old.entries.items (Take worker state) ∙ next_take (space_of case) w worker state no_goal)) (record {
    tables = tables_take case w.opened w.taken state old.tables new.tables goes.tables keeps.shows.tables may.is_open may.least;
    busy = λ v. put_in_list w.busy old.busy.items worker (Some state) v may.low may.high keeps.shows.busy ∙ ap (λ (b : List (Option ℕ)). held_by b v) (sym busy);
    takes = takes_after case worker state old new keeps goes;
    ending = keeps.shows.ending ∙ ap ending_of (sym end);
    budget = goes.budget ∙ keeps.shows.budget;
  });
  whole = whole_leaves case old.tables new.tables goes.tables keeps.whole;
  room = λ going.
      let before = keeps.room (ap is_going (sym end) ∙ going) in
      let fewer = idle_set old.busy.items (worker - 1) state (let low = may.low in let high = may.high in omega arith) (sym (held_at old.busy.items worker may.low) ∙ sym (keeps.shows.busy worker) ∙ may.idle) in
      let idle : idle_count new.busy.items ≡ idle_count (set old.busy.items (worker - 1) (Some state)) = ap idle_count busy in
      let long : length new.entries.items ≡ length old.entries.items + 1 = ap length goes.entries ∙ length_push old.entries.items (Take worker state) in
      let same = goes.capacity in
      omega arith;
  some = (let n = as_many in let s = keeps.some in omega arith);
  few = (let n = as_many in let s = keeps.few in omega arith);
}
  where
    w : World PlainState
    w = world_of case (seen_of old)

    as_many : length new.busy.items ≡ length old.busy.items
    as_many = ap length busy ∙ length-set old.busy.items (worker - 1) (Some state)

    no_goal : value_in case w state ≢ 0
    no_goal e = other (value_kept case w old state keeps.shows ∙ e)

-- There is room for the take's entry.
pub room_for_take : (case : Case) (worker state : ℕ) (l : Ledger) → Keeps case l → MayCome case (seen_of l) (Take worker state) → length l.entries.items < vec_capacity l.entries
room_for_take case worker state l keeps may =
    let going = going_is l.end (sym keeps.shows.ending ∙ may.going) in
    let room = keeps.room going in
    let fewer = idle_set l.busy.items (worker - 1) state (let low = may.low in let high = may.high in omega arith) (sym (held_at l.busy.items worker may.low) ∙ sym (keeps.shows.busy worker) ∙ may.idle) in
    omega arith

-- The state has a value.
pub values_within : (case : Case) (worker state : ℕ) (l : Ledger) → Keeps case l → MayCome case (seen_of l) (Take worker state) → state < length l.tables.values.items
values_within case worker state l keeps may =
    subst (λ (n : ℕ). state < n) (sym (ap length keeps.shows.tables.values ∙ length-map (world_of case (seen_of l)).opened (λ (o : Opened PlainState). o.value))) may.is_open.0
