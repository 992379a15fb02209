-- Counts of 64 bits, which stand still at their end, and lists of numbers.
use Rattle.std.specs.Prelude.{ℕ, ◌+◌, ◌-◌, ◌^◌, ◌==◌, min, Bool, List}
use Rattle.std.specs.List.{list_any}

-- where a count stands still
abbrev pub greatest_count : ℕ
greatest_count = 2 ^ 64 - 1

-- one more, but no more than the greatest count
abbrev pub next_count : ℕ → ℕ
next_count n = min (n + 1) greatest_count

-- the number is in the list
abbrev pub is_listed : ℕ → List ℕ → Bool
is_listed number numbers = list_any (λ listed. listed == number) numbers
