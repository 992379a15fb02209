-- Types that are equal, above or below one another.
use Rattle.std.specs.Prelude.{ℕ, zero, suc, Bool, ◌||◌, List, [], ◌∷◌, length, slice_index_or}
use Rattle.std.specs.List.{list_any}
use Rattle.mf_model.specs.Objects.{member}

-- a type, its parent, the parent's parent and so on: n of them. Where `object` descends from another type, the way
-- leads on past `object`
abbrev pub upward : List ℕ → ℕ → ℕ → List ℕ
upward parents zero t = []
upward parents (suc n) t = t ∷ upward parents n (slice_index_or parents t 0)

-- from a type up by parents, or staying there, to another one: no way is longer than there are types
abbrev pub descends : List ℕ → ℕ → ℕ → Bool
descends parents t u = member u (upward parents (length parents) t)

abbrev pub is_related : List ℕ → ℕ → ℕ → Bool
is_related parents t u = descends parents t u || descends parents u t

-- some type of the one list is equal to, above or below some type of the other
abbrev pub are_related : List ℕ → List ℕ → List ℕ → Bool
are_related parents ts us = list_any (λ t. list_any (λ u. is_related parents t u) us) ts
