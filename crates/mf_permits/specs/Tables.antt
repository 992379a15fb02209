-- What is kept of the opened states, against the opened states of a search.
use Rattle.std.specs.Prelude.{◌≡◌, ℕ, ◌+◌, ◌<◌, ◌≤◌, List, Contains, length, map, vec_capacity}
use Rattle.std.specs.List.{All}
use Rattle.mf_store.specs.Rows.{RowLists, HasShape}
use Rattle.mf_open.specs.declared.key.Key.{Key}
use Rattle.mf_model.specs.declared.state.PlainState.{PlainState}
use Rattle.mf_search.specs.Keys.{KeyFields, HoldsOpen}
use Rattle.mf_search.specs.World.{Opened, open_child, open_all}
use Rattle.mf_task.specs.declared.grown.Child.{Child}
use Rattle.mf_task.specs.CaseRows.{IsNarrowRow, child_of, meaning_of}
use Rattle.mf_task.specs.Rows.{word_count}
use Rattle.mf_task.specs.Successors.{Case, packed_of, space_of}
use Rattle.mf_bridge.specs.StoredRows.{HasWords}
use Rattle.mf_permits.specs.declared.tables.Tables.{Tables}

-- How many words of bits and how many values the rows of the case have.

unfoldable pub words_of : Case → ℕ
words_of case = word_count (length (packed_of case.task).atoms)

unfoldable pub values_of : Case → ℕ
values_of case = length (packed_of case.task).terms

-- the row is of the task's shape
abbrev pub HasTaskShape : Case → RowLists → Type 0
HasTaskShape case row = HasShape (words_of case) (values_of case) row

-- A row that is kept: it is narrow, and its words fit their type.
pub record IsKeptRow (case : Case) (row : RowLists) : Type 0 where
  pub narrow : IsNarrowRow case row
  pub words : HasWords row

-- The rows are kept ones of the task's shape, and each key is that of a row.
pub record IsWhole (case : Case) (t : Tables) : Type 0 where
  pub words : t.store.word_count ≡ words_of case
  pub values : t.store.value_count ≡ values_of case
  pub rows : All (IsKeptRow case) t.store.rows
  pub keys : (key : Key) → Contains t.open_list.keys key → key.state < length t.store.rows

-- There is room for so many more states.
pub record HasRoom (n : ℕ) (t : Tables) : Type 0 where
  pub store : n ≤ t.store.room
  pub values : length t.values.items + n ≤ vec_capacity t.values
  pub makers : length t.makers.items + n ≤ vec_capacity t.makers
  pub open_list : n ≤ t.open_list.room

abbrev pub fields_of : Key → KeyFields
fields_of key = record { value = key.value; plain = key.plain; state = key.state }

-- The rows stand for the opened states, in the order of their numbers, with their values and makers, and the keys are
-- those of the open states.
pub record AreTables (case : Case) (os : List (Opened PlainState)) (taken : List ℕ) (t : Tables) : Type 0 where
  pub within : (i : ℕ) → Contains taken i → i < length os
  pub states : map (meaning_of case) t.store.rows ≡ map (λ o. o.state) os
  pub values : t.values.items ≡ map (λ o. o.value) os
  pub makers : t.makers.items ≡ map (λ o. o.maker) os
  pub open_keys : HoldsOpen (space_of case) os taken fields_of t.open_list.keys

-- Of whatever opened states the tables were, they are now of those and the child of the state of number p.
abbrev pub OpensChild : Case → ℕ → Child → Tables → Tables → Type 0
OpensChild case p child old new = (os : List (Opened PlainState)) (taken : List ℕ) → AreTables case os taken old → AreTables case (open_child (space_of case) p (child_of case child) os) taken new

-- The same of a list of children.
abbrev pub OpensList : Case → ℕ → List Child → Tables → Tables → Type 0
OpensList case p children old new = (os : List (Opened PlainState)) (taken : List ℕ) → AreTables case os taken old → AreTables case (open_all (space_of case) p (map (child_of case) children) os) taken new

-- The tables are the same but for their room.
pub record KeepsTables (old new : Tables) : Type 0 where
  pub words : new.store.word_count ≡ old.store.word_count
  pub values_count : new.store.value_count ≡ old.store.value_count
  pub rows : new.store.rows ≡ old.store.rows
  pub values : new.values.items ≡ old.values.items
  pub makers : new.makers.items ≡ old.makers.items
  pub keys : new.open_list.keys ≡ old.open_list.keys
