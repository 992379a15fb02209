-- What a store of rows keeps, and what one call changes.
use Rattle.std.specs.Prelude.{◌≡◌, ◌≢◌, ℕ, Bool, true, false, ◌<◌, ◌≤◌, List, length, fold, get_or, map, slice_get, Contains, Option, None, Some}
use Rattle.std.specs.List.{All, AllPairs}
use Rattle.std.specs.Hash.FoldHasher as folding
use Rattle.mf_store.specs.Rows.{RowLists, HasShape}
use Rattle.mf_store.specs.SameRows.{row_writes}
use Rattle.mf_store.specs.Stored.{StoredRows, with_row}
use Rattle.mf_store.specs.Chains.{Hashes}

-- the rows are pairwise different and of one shape
abbrev pub AllDifferent : List RowLists → Type 0
AllDifferent rows = AllPairs (λ a b. a ≢ b) rows

abbrev pub AllShaped : StoredRows → Type 0
AllShaped s = All (HasShape s.word_count s.value_count) s.rows

-- a row is given a number: a new row the next one, with which it is added, and a known row its own
abbrev pub Interns : StoredRows → RowLists → StoredRows → ℕ × Bool → Type 0
Interns old row new (number, true) = (Contains old.rows row → ⊥) × (number ≡ length old.rows) × (new ≡ with_row old row)
Interns old row new (number, false) = (slice_get old.rows number ≡ Some row) × (new ≡ old)

-- ---- how rows are found
-- what a hasher answers that was fed the row
unfoldable pub hash_of : RowLists → ℕ
hash_of row = folding.finish (fold folding.write folding.initial (row_writes row))

-- the row has no number before the one at which a search goes on
abbrev pub IsSought : ℕ → List ℕ → List RowLists → RowLists → Option ℕ → Type 0
IsSought hash hashes rows row None = (j : ℕ) → slice_get rows j ≢ Some row
IsSought hash hashes rows row (Some i) =
    (i < length hashes) × (get_or hashes i 0 ≡ hash) × ((j : ℕ) → j < i → slice_get rows j ≢ Some row)

pub record IsStore (s : StoredRows) (chains : Hashes) : Type 0 where
  pub hashes : chains.hashes ≡ map hash_of s.rows
  pub room : s.room ≤ chains.room
  pub different : AllDifferent s.rows
  pub shaped : AllShaped s
