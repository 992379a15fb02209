-- Rows that are kept under numbers: row n is the one with number n.
use Rattle.std.specs.Prelude.{◌≡◌, ℕ, ◌+◌, ◌-◌, ◌*◌, ◌^◌, ◌<◌, ◌≤◌, min, List, [], ◌∷◌, ◌++◌, length}
use Rattle.std.specs.List.{All}
use Rattle.mf_fraction.specs.Exact.{Number}
use Rattle.mf_store.specs.Rows.{RowLists}
use Rattle.mf_store.specs.Packed.{IsStrip}
use Rattle.mf_store.specs.Strips.{Strips}

-- the rows have so many words of bits and so many values, and there is room for so many further rows
pub record StoredRows : Type 0 where
  pub word_count : ℕ
  pub value_count : ℕ
  pub rows : List RowLists
  pub room : ℕ

abbrev pub with_room : StoredRows → ℕ → StoredRows
with_room s room = record { word_count = s.word_count; value_count = s.value_count; rows = s.rows; room = room }

-- one row more, which takes one place of the room
abbrev pub with_row : StoredRows → RowLists → StoredRows
with_row s row = record { word_count = s.word_count; value_count = s.value_count; rows = s.rows ++ row ∷ []; room = s.room - 1 }

-- the strips are those of rows with so many words and values, and the room that is promised is there
pub record IsPacked (words values room : ℕ) (pages : Strips) (fractions : List Number) (fraction_capacity strip_capacity : ℕ) : Type 0 where
  pub width : pages.width ≡ min (values + words) (2 ^ 64 - 1)
  pub strips : All (IsStrip words values (length fractions)) pages.strips
  pub pages_room : room ≤ pages.room
  pub fractions_room : length fractions + room * values ≤ fraction_capacity
  pub strip_room : 0 < room → pages.width ≤ strip_capacity
