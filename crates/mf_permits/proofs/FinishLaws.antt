-- A finish: what is answered, and the ledger after it.
use Rattle.std.proofs.Common.{◌≡◌, ℕ, ◌<◌, ◌≤◌, ◌+◌, ◌-◌, ◌++◌, true, false, List, [], ◌∷◌, Contains, Option, length, map, set, Some, None, sym, ap, subst, rules, ◌∙◌, arith}
use Rattle.std.specs.Prelude.{vec_capacity}
use Rattle.std.specs.List.{All}
use Rattle.std.proofs.lemmas.List.{length_push, length-set}
use Rattle.mf_store.specs.Rows.{RowLists}
use Rattle.mf_open.specs.declared.key.Key.{Key}
use Rattle.mf_model.specs.declared.state.PlainState.{PlainState}
use Rattle.mf_search.specs.declared.entry.Entry.{Entry}
use Rattle.mf_search.specs.declared.entry.Entry.TheVariants.{Done, Wide}
use Rattle.mf_search.specs.Columns.{held_by}
use Rattle.mf_search.specs.Keys.{HoldsOpen}
use Rattle.mf_search.specs.Space.{Grown as SpaceGrown, IsListed, LeadsOut, Listed, children_of}
use Rattle.mf_search.specs.World.{Going, Legal, Opened, World, at, open_all, put, world}
use Rattle.mf_search.proofs.Listing.{put_in_list}
use Rattle.mf_search.proofs.OneStep.{legal_push, world_push}
use Rattle.mf_task.specs.declared.grown.Child.{Child}
use Rattle.mf_task.specs.declared.grown.Grown.{Grown}
use Rattle.mf_task.specs.declared.grown.Grown.TheVariants as grown
use Rattle.mf_task.specs.CaseRows.{ExpansionParts, IsGrownOf, IsMadeOf, IsWayOut, child_of, meaning_of}
use Rattle.mf_task.specs.Successors.{Case, space_of}
use Rattle.mf_permits.specs.declared.ledger.End.TheVariants as ends
use Rattle.mf_permits.specs.declared.ledger.Ledger.{Ledger}
use Rattle.mf_permits.specs.declared.tables.Tables.{Tables}
use Rattle.mf_permits.specs.Core.{IsMadeAt, MayCome, entry_of, world_of}
use Rattle.mf_permits.specs.Ledger.{Keeps, Shows, ending_of, idle_count, is_going, seen_of}
use Rattle.mf_permits.specs.Tables.{AreTables, IsKeptRow, IsWhole, KeepsTables, OpensList, fields_of}
use Rattle.mf_permits.proofs.TakeLaws.{idle_most}

-- Tables with more room

pub kept_whole : (case : Case) (old new : Tables) → KeepsTables old new → IsWhole case old → IsWhole case new
kept_whole case old new kept whole = record {
  words = kept.words ∙ whole.words;
  values = kept.values_count ∙ whole.values;
  rows = subst (λ (rs : List RowLists). All (IsKeptRow case) rs) (sym kept.rows) whole.rows;
  keys = λ k held. subst (λ (rs : List RowLists). k.state < length rs) (sym kept.rows) (whole.keys k (subst (λ (ks : List Key). Contains ks k) kept.keys held));
}

pub kept_tables : (case : Case) (os : List (Opened PlainState)) (taken : List ℕ) (old new : Tables) → KeepsTables old new → AreTables case os taken old → AreTables case os taken new
kept_tables case os taken old new kept t = record {
  within = t.within;
  states = ap (map (meaning_of case)) kept.rows ∙ t.states;
  values = kept.values ∙ t.values;
  makers = kept.makers ∙ t.makers;
  open_keys = subst (λ (ks : List Key). HoldsOpen (space_of case) os taken fields_of ks) (sym kept.keys) t.open_keys;
}

-- The same ledger, but for its room.
pub record SameLedger (old new : Ledger) : Type 0 where
  pub tables : KeepsTables old.tables new.tables
  pub entries : new.entries.items ≡ old.entries.items
  pub capacity : vec_capacity old.entries ≤ vec_capacity new.entries
  pub busy : new.busy.items ≡ old.busy.items
  pub takes : new.takes ≡ old.takes
  pub end : new.end ≡ old.end
  pub budget : new.budget ≡ old.budget

pub keeps_same : (case : Case) (old new : Ledger) → SameLedger old new → Keeps case old → Keeps case new
keeps_same case old new same keeps = record {
  legal = subst (λ (es : List Entry). Legal (space_of case) case.budget (length new.busy.items) es) (sym same.entries)
      (subst (λ (b : List (Option ℕ)). Legal (space_of case) case.budget (length b) old.entries.items) (sym same.busy) keeps.legal);
  shows = subst (λ (es : List Entry). Shows case (world (space_of case) es) new) (sym same.entries) (record {
    tables = kept_tables case w.opened w.taken old.tables new.tables same.tables keeps.shows.tables;
    busy = λ v. keeps.shows.busy v ∙ ap (λ (b : List (Option ℕ)). held_by b v) (sym same.busy);
    takes = same.takes ∙ keeps.shows.takes;
    ending = keeps.shows.ending ∙ ap ending_of (sym same.end);
    budget = same.budget ∙ keeps.shows.budget;
  });
  whole = kept_whole case old.tables new.tables same.tables keeps.whole;
  room = λ going.
      let before = keeps.room (ap is_going (sym same.end) ∙ going) in
      let long : length new.entries.items ≡ length old.entries.items = ap length same.entries in
      let idle : idle_count new.busy.items ≡ idle_count old.busy.items = ap idle_count same.busy in
      let more = same.capacity in
      omega arith;
  some = subst (λ (b : List (Option ℕ)). 1 ≤ length b) (sym same.busy) keeps.some;
  few = subst (λ (b : List (Option ℕ)). length b ≤ 64) (sym same.busy) keeps.few;
}
  where
    w : World PlainState
    w = world_of case (seen_of old)

-- An expansion is kept

legal_with : (case : Case) (entry : Entry) (old new : Ledger) → Keeps case old → MayCome case (seen_of old) entry → new.entries.items ≡ old.entries.items ++ entry ∷ [] → length new.busy.items ≡ length old.busy.items → Legal (space_of case) case.budget (length new.busy.items) new.entries.items
legal_with case entry old new keeps may entries as_many =
    subst (λ (es : List Entry). Legal (space_of case) case.budget (length new.busy.items) es) (sym entries)
    (subst (λ (n : ℕ). Legal (space_of case) case.budget n (old.entries.items ++ entry ∷ [])) (sym as_many)
    (legal_push (space_of case) case.budget (length old.busy.items) old.entries.items entry keeps.legal may))

-- What a done state changes.
pub record BeDone (case : Case) (worker state : ℕ) (children : List Child) (old new : Ledger) : Type 0 where
  pub opened : OpensList case state children old.tables new.tables
  pub whole : IsWhole case new.tables
  pub entries : new.entries.items ≡ old.entries.items ++ Done worker state ∷ []
  pub capacity : vec_capacity new.entries ≡ vec_capacity old.entries
  pub busy : new.busy.items ≡ set old.busy.items (worker - 1) None
  pub takes : new.takes ≡ old.takes
  pub end : new.end ≡ old.end
  pub budget : new.budget ≡ old.budget

pub keeps_done : (case : Case) (worker state : ℕ) (children : List Child) (old new : Ledger) → Keeps case old → MayCome case (seen_of old) (Done worker state) → 1 ≤ worker → worker ≤ length old.busy.items →
    (space_of case).grow (at (space_of case) (world_of case (seen_of old)).opened state).state ≡ Listed (map (child_of case) children) → length old.entries.items + length old.busy.items + 1 ≤ vec_capacity old.entries →
    BeDone case worker state children old new → Keeps case new
keeps_done case worker state children old new keeps may low high listed room done = record {
  legal = legal_with case (Done worker state) old new keeps may done.entries as_many;
  shows = subst (λ (w : World PlainState). Shows case w new) (sym (ap (world (space_of case)) done.entries ∙ world_push (space_of case) old.entries.items (Done worker state) ∙ ap after listed)) (record {
    tables = done.opened w.opened w.taken keeps.shows.tables;
    busy = λ v. put_in_list w.busy old.busy.items worker None v low high keeps.shows.busy ∙ ap (λ (b : List (Option ℕ)). held_by b v) (sym done.busy);
    takes = done.takes ∙ keeps.shows.takes;
    ending = keeps.shows.ending ∙ ap ending_of (sym done.end);
    budget = done.budget ∙ keeps.shows.budget;
  });
  whole = done.whole;
  room = λ going.
      let long : length new.entries.items ≡ length old.entries.items + 1 = ap length done.entries ∙ length_push old.entries.items (Done worker state) in
      let few = idle_most new.busy.items in
      let same = done.capacity in
      let n = as_many in
      omega arith;
  some = (let n = as_many in let s = keeps.some in omega arith);
  few = (let n = as_many in let s = keeps.few in omega arith);
}
  where
    w : World PlainState
    w = world_of case (seen_of old)

    as_many : length new.busy.items ≡ length old.busy.items
    as_many = ap length done.busy ∙ length-set old.busy.items (worker - 1) None

    after : SpaceGrown PlainState → World PlainState
    after grown = record w { opened = open_all (space_of case) state (children_of grown) w.opened; busy = put w.busy worker None }

-- What a way out of the width changes.
pub record BeWide (worker state instance : ℕ) (old new : Ledger) : Type 0 where
  pub tables : new.tables ≡ old.tables
  pub entries : new.entries.items ≡ old.entries.items ++ Wide worker state instance ∷ []
  pub busy : new.busy.items ≡ old.busy.items
  pub takes : new.takes ≡ old.takes
  pub end : new.end ≡ ends.Wide state instance
  pub budget : new.budget ≡ old.budget

pub keeps_wide : (case : Case) (worker state instance : ℕ) (old new : Ledger) → Keeps case old → MayCome case (seen_of old) (Wide worker state instance) → BeWide worker state instance old new → Keeps case new
keeps_wide case worker state instance old new keeps may wide = record {
  legal = legal_with case (Wide worker state instance) old new keeps may wide.entries (ap length wide.busy);
  shows = subst (λ (w : World PlainState). Shows case w new) (sym (ap (world (space_of case)) wide.entries ∙ world_push (space_of case) old.entries.items (Wide worker state instance))) (record {
    tables = subst (AreTables case w.opened w.taken) (sym wide.tables) keeps.shows.tables;
    busy = λ v. keeps.shows.busy v ∙ ap (λ (b : List (Option ℕ)). held_by b v) (sym wide.busy);
    takes = wide.takes ∙ keeps.shows.takes;
    ending = sym (ap ending_of wide.end);
    budget = wide.budget ∙ keeps.shows.budget;
  });
  whole = subst (IsWhole case) (sym wide.tables) keeps.whole;
  room = λ going. let both : false ≡ true = sym (ap is_going wide.end) ∙ going in absurd (search rules);
  some = subst (λ (b : List (Option ℕ)). 1 ≤ length b) (sym wide.busy) keeps.some;
  few = subst (λ (b : List (Option ℕ)). length b ≤ 64) (sym wide.busy) keeps.few;
}
  where
    w : World PlainState
    w = world_of case (seen_of old)

-- Where the expansion was made from the state's row, its content is what the search rules give at the state.
pub grown_at : (case : Case) (l : Ledger) (worker : ℕ) (made : ExpansionParts) (children : List Child) → IsMadeAt case (seen_of l) worker made → (world_of case (seen_of l)).busy worker ≡ Some made.state →
    IsMadeOf case made.from children → (space_of case).grow (at (space_of case) (world_of case (seen_of l)).opened made.state).state ≡ Listed (map (child_of case) children)
grown_at case l worker made children at_state holds is = ap (λ (x : PlainState). (space_of case).grow x) (sym (at_state holds)) ∙ is.list_is

pub way_out_at : (case : Case) (l : Ledger) (worker : ℕ) (made : ExpansionParts) (instance : ℕ) → IsMadeAt case (seen_of l) worker made → (world_of case (seen_of l)).busy worker ≡ Some made.state →
    IsWayOut case made.from instance → (space_of case).grow (at (space_of case) (world_of case (seen_of l)).opened made.state).state ≡ LeadsOut instance
way_out_at case l worker made instance at_state holds is = ap (λ (x : PlainState). (space_of case).grow x) (sym (at_state holds)) ∙ is.way_out_is

-- The entry of the expansion may come.
pub may_finish : (case : Case) (l : Ledger) (worker : ℕ) (made : ExpansionParts) (grown : Grown) → (world_of case (seen_of l)).ending ≡ Going → IsMadeAt case (seen_of l) worker made → (world_of case (seen_of l)).busy worker ≡ Some made.state →
    IsGrownOf case made.from grown → MayCome case (seen_of l) (entry_of worker made.state grown)
may_finish case l worker made (grown.Made children) going at_state holds is =
    record { going = going; holds = holds; listed = subst IsListed (sym (grown_at case l worker made children at_state holds is)) tt }
may_finish case l worker made (grown.Wide instance) going at_state holds is =
    record { going = going; holds = holds; leads_out = way_out_at case l worker made instance at_state holds is }
