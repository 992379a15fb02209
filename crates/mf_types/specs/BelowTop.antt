-- Types that are equal, above or below one another, where `object` is at the top: the way up ends there. The code finds
-- them by jumps and marks.
use Rattle.std.specs.Prelude.{ℕ, Bool, ◌||◌, List, length}
use Rattle.std.specs.List.{list_any}
use Rattle.mf_model.specs.Objects.{ancestors, member}

-- from a type up by parents, or staying there, to another one
abbrev pub descends : List ℕ → ℕ → ℕ → Bool
descends parents t u = member u (ancestors parents (length parents) t)

abbrev pub is_related : List ℕ → ℕ → ℕ → Bool
is_related parents t u = descends parents t u || descends parents u t

-- some type of the one list is equal to, above or below some type of the other
abbrev pub are_related : List ℕ → List ℕ → List ℕ → Bool
are_related parents ts us = list_any (λ t. list_any (λ u. is_related parents t u) us) ts
