-- Keys in their order.
use Rattle.std.specs.Prelude.{◌≡◌, ℕ, ◌<◌, nat_lt, ◌==◌, ◌⊎◌, Bool, ◌&&◌, ◌||◌, List, [], ◌∷◌, if◌then◌else◌}
use Rattle.std.specs.List.{All}
use Rattle.mf_open.specs.declared.key.Key.{Key}

-- A state with the helpful mark comes before one without.
abbrev pub rank : Bool → ℕ
rank plain = if plain then 1 else 0

-- The first key comes before the second: by value, then mark, then number.
abbrev pub IsBelow : Key → Key → Type 0
IsBelow a b = (a.value < b.value) ⊎ (a.value ≡ b.value) × (rank a.plain < rank b.plain) ⊎ (a.value ≡ b.value) × (rank a.plain ≡ rank b.plain) × (a.state < b.state)

-- The same as a test.
abbrev pub is_below : Key → Key → Bool
is_below a b = nat_lt a.value b.value || (a.value == b.value && (nat_lt (rank a.plain) (rank b.plain) || (rank a.plain == rank b.plain && nat_lt a.state b.state)))

-- Each key is below all that come after it.
abbrev pub IsRising : List Key → Type 0
IsRising [] = Unit {0}
IsRising (k ∷ ks) = All (IsBelow k) ks × IsRising ks

-- The keys with one more in its place.
abbrev pub with_key : Key → List Key → List Key
with_key k [] = k ∷ []
with_key k (j ∷ js) = if is_below k j then k ∷ j ∷ js else j ∷ with_key k js

-- What is seen of an open list: its keys in rising order, and how many more are sure to find room.
pub record OpenKeys : Type 0 where
  pub keys : List Key
  pub room : ℕ
