-- The tables and the ledger of a search that begins.
use Rattle.std.proofs.Common.{◌≡◌, ℕ, ◌<◌, ◌≤◌, true, List, [], ◌∷◌, Contains, Option, length, get_or, map, replicate, Some, None, sym, ap, subst, ◌∙◌, arith}
use Rattle.std.specs.Prelude.{vec_capacity}
use Rattle.std.specs.List.{All}
use Rattle.std.proofs.lemmas.List.{get_or-replicate, length-replicate}
use Rattle.mf_store.specs.Rows.{RowLists}
use Rattle.mf_open.specs.declared.key.Key.{Key}
use Rattle.mf_model.specs.declared.state.PlainState.{PlainState}
use Rattle.mf_search.specs.declared.entry.Entry.{Entry}
use Rattle.mf_search.specs.declared.maker.Maker.TheVariants.{Start}
use Rattle.mf_search.specs.Columns.{held_by}
use Rattle.mf_search.specs.Keys.{HoldsOpen, KeyFields}
use Rattle.mf_search.specs.World.{Legal, opened_first, world}
use Rattle.mf_search.proofs.Listing.{nothing_held}
use Rattle.mf_search.proofs.Members.{not_in_nil}
use Rattle.mf_search.proofs.OpenKeys.{holds_nothing}
use Rattle.mf_task.specs.CaseRows.{IsRoot, RootParts, meaning_of, number_of}
use Rattle.mf_task.specs.Successors.{Case, space_of}
use Rattle.mf_permits.specs.declared.ledger.End.TheVariants as ends
use Rattle.mf_permits.specs.declared.ledger.Ledger.{Ledger}
use Rattle.mf_permits.specs.declared.tables.Tables.{Tables}
use Rattle.mf_permits.specs.Ledger.{Keeps, Shows, ending_of}
use Rattle.mf_permits.specs.Tables.{AreTables, HasTaskShape, IsKeptRow, IsWhole, fields_of}
use Rattle.mf_permits.proofs.TableLaws.{Enters, as_many, tables_push}
use Rattle.mf_permits.proofs.TakeLaws.{idle_most}

-- Tables of rows of the task's shape in which nothing is opened.
pub record AreEmpty (row : RowLists) (t : Tables) : Type 0 where
  pub words : t.store.word_count ≡ length row.bits
  pub values_count : t.store.value_count ≡ length row.values
  pub rows : t.store.rows ≡ []
  pub values : t.values.items ≡ []
  pub makers : t.makers.items ≡ []
  pub keys : t.open_list.keys ≡ []

pub empty_whole : (case : Case) (row : RowLists) (t : Tables) → HasTaskShape case row → AreEmpty row t → IsWhole case t
empty_whole case row t shape empty = record {
  words = empty.words ∙ shape.words;
  values = empty.values_count ∙ shape.values;
  rows = subst (λ (rs : List RowLists). All (IsKeptRow case) rs) (sym empty.rows) (λ k d low. absurd (omega arith));
  keys = λ key held. absurd (not_in_nil key (subst (λ (ks : List Key). Contains ks key) empty.keys held));
}

pub empty_are_tables : (case : Case) (row : RowLists) (t : Tables) → AreEmpty row t → AreTables case [] [] t
empty_are_tables case row t empty = record {
  within = λ i held. absurd (not_in_nil i held);
  states = ap (map (meaning_of case)) empty.rows;
  values = empty.values;
  makers = empty.makers;
  open_keys = subst (λ (ks : List Key). HoldsOpen (space_of case) [] [] fields_of ks) (sym empty.keys) (holds_nothing (space_of case) fields_of);
}

pub no_rows : (case : Case) (t : Tables) (row : RowLists) → AreTables case [] [] t → Contains t.store.rows row → ⊥
no_rows case t row tables held = let none = as_many case [] [] t tables in let low = held.1 in omega arith

-- The start's value is that of the root.
pub start_value : (case : Case) (root : RootParts) → IsRoot case root → (space_of case).value (space_of case).start ≡ number_of root.value
start_value case root is = ap (λ (x : PlainState). (space_of case).value x) (sym is.start_is) ∙ is.value_is.value_is

-- Where the start's value is infinite nothing is opened.
pub nothing_first : (case : Case) (t : Tables) → (space_of case).value (space_of case).start ≡ None → AreTables case [] [] t → AreTables case (opened_first (space_of case) ((space_of case).value (space_of case).start)) [] t
nothing_first case t infinite tables = subst (λ (v : Option ℕ). AreTables case (opened_first (space_of case) v) [] t) (sym infinite) tables

-- The start is opened first.
pub start_first : (case : Case) (row : RowLists) (value state : ℕ) (old new : Tables) → meaning_of case row ≡ (space_of case).start → (space_of case).value (space_of case).start ≡ Some value →
    Enters row value Start (record { value = value; plain = true; state = state }) old new → AreTables case [] [] old → AreTables case (opened_first (space_of case) ((space_of case).value (space_of case).start)) [] new
start_first case row value state old new start finite enters t =
    subst (λ (v : Option ℕ). AreTables case (opened_first (space_of case) v) [] new) (sym finite)
    (subst (λ (x : PlainState). AreTables case (record { state = x; value = value; maker = Start } ∷ []) [] new) start
    (tables_push case row value Start (record { value = value; plain = true; state = state }) old new [] [] enters (ap (λ (n : ℕ). fields n) (enters.number ∙ as_many case [] [] old t)) t))
  where
    fields : ℕ → KeyFields
    fields n = record { value = value; plain = true; state = n }

abbrev nothing : Option ℕ
nothing = None

all_empty : (n k : ℕ) → k < length (replicate n nothing) → get_or (replicate n nothing) k None ≡ None
all_empty n k low = get_or-replicate n k nothing None (subst (λ (m : ℕ). k < m) (length-replicate n nothing) low)

-- Nothing has been done yet.
pub record Begins (case : Case) (workers : ℕ) (l : Ledger) : Type 0 where
  pub tables : AreTables case (opened_first (space_of case) ((space_of case).value (space_of case).start)) [] l.tables
  pub whole : IsWhole case l.tables
  pub busy : l.busy.items ≡ replicate workers nothing
  pub entries : l.entries.items ≡ []
  pub room : workers ≤ vec_capacity l.entries
  pub takes : l.takes ≡ 0
  pub end : l.end ≡ ends.Going
  pub budget : l.budget ≡ case.budget

pub keeps_begin : (case : Case) (workers : ℕ) (l : Ledger) → 1 ≤ workers → workers ≤ 64 → Begins case workers l → Keeps case l
keeps_begin case workers l low high begins = record {
  legal = subst (λ (es : List Entry). Legal (space_of case) case.budget (length l.busy.items) es) (sym begins.entries) tt;
  shows = subst (λ (es : List Entry). Shows case (world (space_of case) es) l) (sym begins.entries) (record {
    tables = begins.tables;
    busy = λ v. sym (ap (λ (b : List (Option ℕ)). held_by b v) begins.busy ∙ nothing_held (replicate workers nothing) (all_empty workers) v);
    takes = begins.takes;
    ending = sym (ap ending_of begins.end);
    budget = begins.budget;
  });
  whole = begins.whole;
  room = λ going.
      let few = idle_most l.busy.items in
      let long : length l.entries.items ≡ 0 = ap length begins.entries in
      let n = as_many_workers in
      let room = begins.room in
      omega arith;
  some = (let n = as_many_workers in omega arith);
  few = (let n = as_many_workers in omega arith);
}
  where
    as_many_workers : length l.busy.items ≡ workers
    as_many_workers = ap length begins.busy ∙ length-replicate workers nothing
