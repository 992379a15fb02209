-- Opened states kept as columns, one list for each part, a search of them for the open state of least key, and a list of workers.
use Rattle.std.specs.Prelude.{◌≡◌, ◌↔◌, ℕ, zero, suc, ◌<◌, Bool, true, false, List, Option, Some, None, Contains, length, get_or, map}
use Rattle.mf_search.specs.declared.maker.Maker.{Maker}
use Rattle.mf_search.specs.Space.{Space}
use Rattle.mf_search.specs.World.{Opened, at, KeyAtMost}

-- The lists are the columns of the opened states: their states, values and makers, and whether each was taken.
pub record Columns {S : Type 0} (os : List (Opened S)) (taken : List ℕ) (states : List S) (values : List ℕ) (makers : List Maker) (flags : List Bool) : Type 0 where
  pub states_are : states ≡ map (λ o. o.state) os
  pub values_are : values ≡ map (λ o. o.value) os
  pub makers_are : makers ≡ map (λ o. o.maker) os
  pub flags_len : length flags ≡ length os
  pub flags_are : (i : ℕ) → i < length os → (get_or flags i false ≡ true) ↔ Contains taken i

-- Of the first n opened states this is the open one of least key, or none of them is open.
abbrev pub IsLeastOpen : {S : Type 0} → Space S → List (Opened S) → List ℕ → ℕ → Option ℕ → Type 0
IsLeastOpen sp os taken n None = (j : ℕ) → j < n → Contains taken j
IsLeastOpen sp os taken n (Some i) = (i < n) × (Contains taken i → ⊥) × ((j : ℕ) → j < n → (Contains taken j → ⊥) → KeyAtMost (at sp os i) i (at sp os j) j)

-- What each worker has in expansion, from a list in which worker 1 comes first.
abbrev pub held_by : List (Option ℕ) → ℕ → Option ℕ
held_by kept zero = None
held_by kept (suc k) = get_or kept k None
