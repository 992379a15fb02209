-- What a row is: words of bits, and values that are exact fractions or undefined.
use Rattle.std.specs.Prelude.{◌≡◌, ℕ, ◌/◌, ◌%◌, Bool, nat_eq, List, length, get_or, Option}
use Rattle.std.specs.Int.{bit_at}
use Rattle.mf_fraction.specs.Exact.{Number}

pub record RowLists : Type 0 where
  pub bits : List ℕ
  pub values : List (Option Number)

-- so many words of bits, and so many values
pub record HasShape (word_count value_count : ℕ) (row : RowLists) : Type 0 where
  pub words : length row.bits ≡ word_count
  pub values : length row.values ≡ value_count

-- whether the bit at a place is set: the places of a word are counted from its lowest bit, 64 to a word
abbrev pub bit_in : List ℕ → ℕ → Bool
bit_in words place = nat_eq (bit_at (get_or words (place / 64) 0) (place % 64)) 1
