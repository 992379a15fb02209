-- How a row is kept in one strip of words: one word for each value, and then its words of bits.
use Rattle.std.specs.Prelude.{◌≡◌, ℕ, ◌+◌, ◌-◌, ◌^◌, ◌<◌, ◌==◌, nat_le, pos, neg_ℤ, List, [], ◌∷◌, map, length, take, drop, slice_get, Option, Some, None, if◌then◌else◌}
use Rattle.std.specs.List.{All}
use Rattle.mf_fraction.specs.Exact.{Number, whole}
use Rattle.mf_store.specs.Rows.{RowLists}

-- a whole number from 0 to 2^62 is its own word, 2^63 is the word of no value, and -n has the word 2^63 + n;
-- the greater words are the places of a list of fractions
unfoldable pub value_of : List Number → ℕ → Option Number
value_of fractions word =
    if nat_le word (2 ^ 62) then Some (whole (pos word))
    else (if nat_le word (2 ^ 63) then None
    else (if nat_le word (2 ^ 63 + 2 ^ 62) then Some (whole (neg_ℤ (pos (word - 2 ^ 63))))
    else slice_get fractions (word - (2 ^ 63 + 2 ^ 62 + 1))))

-- the word's place, where it is one, lies in a list of n fractions
abbrev pub IsCoded : ℕ → ℕ → Type 0
IsCoded n word = word < 2 ^ 63 + 2 ^ 62 + 1 + n

-- what a value adds to the list: itself, where it is no whole number
abbrev pub fractions_in : Option Number → List Number
fractions_in None = []
fractions_in (Some f) = if f.den == 1 then [] else f ∷ []

unfoldable pub row_of : ℕ → List Number → List ℕ → RowLists
row_of value_count fractions strip =
    record { bits = drop value_count strip; values = map (value_of fractions) (take value_count strip) }

-- a strip of a row with so many words of bits and values, beside a list of n fractions
pub record IsStrip (word_count value_count n : ℕ) (strip : List ℕ) : Type 0 where
  pub length_is : length strip ≡ value_count + word_count
  pub coded : All (IsCoded n) (take value_count strip)
