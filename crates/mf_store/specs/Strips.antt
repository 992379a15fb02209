-- Strips of words, all of one width, that are kept in pages of 1,024 strips.
use Rattle.std.specs.Prelude.{◌≡◌, ℕ, ◌*◌, ◌-◌, ◌/◌, ◌%◌, ◌^◌, ◌<◌, ◌≤◌, min, List, [], map, length, get_or, take, drop}
use Rattle.std.specs.List.{range_with_len}

-- the strips in order, and the number of further strips that there is room for
pub record Strips : Type 0 where
  pub width : ℕ
  pub strips : List (List ℕ)
  pub room : ℕ

-- strip n begins `n % 1024` strips behind the head of page `n / 1024`
abbrev pub strip_at : ℕ → List (List ℕ) → ℕ → List ℕ
strip_at width pages n = take width (drop (n % 1024 * width) (get_or pages (n / 1024) []))

unfoldable pub strips_of : ℕ → ℕ → List (List ℕ) → List (List ℕ)
strips_of width len pages = map (strip_at width pages) (range_with_len 0 len)

-- the words of `len` strips lie in these pages, and each page but the last in use is full
pub record IsPaged (width len : ℕ) (pages : List (List ℕ)) : Type 0 where
  pub filled : (k : ℕ) → length (get_or pages k []) ≡ min 1024 (len - 1024 * k) * width
  pub within : len ≤ 1024 * length pages
  pub small : 1024 * length pages < 2 ^ 64
