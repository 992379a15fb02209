-- Rows as conditions and effects see them.
use Rattle.std.specs.Prelude.{◌≡◌, ℕ, ◌+◌, ◌/◌, ◌≤◌, Bool, false, length, get_or, Option, None}
use Rattle.mf_fraction.specs.Exact.{Number}
use Rattle.mf_store.specs.Rows.{RowLists, bit_in}
use Rattle.mf_task.specs.declared.task.Task.{Task}

-- which atoms are true, and the values of the defined terms, by their numbers
pub record Sight : Type 0 where
  pub bit : ℕ → Bool
  pub value : ℕ → Option Number

abbrev pub sight_of : RowLists → Sight
sight_of row = record { bit = bit_in row.bits; value = λ term. get_or row.values term None }

-- how many words hold so many bits
abbrev pub word_count : ℕ → ℕ
word_count bits = (bits + 63) / 64

-- a row of the task's shape: a bit for each atom, a value for each term, and no bit beyond the last atom
pub record IsRowOf (task : Task) (row : RowLists) : Type 0 where
  pub words : length row.bits ≡ word_count (length task.atoms)
  pub values : length row.values ≡ length task.terms
  pub clear : (atom : ℕ) → length task.atoms ≤ atom → bit_in row.bits atom ≡ false
