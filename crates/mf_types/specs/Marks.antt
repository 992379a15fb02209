-- Types that are marked: some types and all that stand above one of them.
use Rattle.std.specs.Prelude.{◌≡◌, ℕ, Bool, true, false, ◌||◌, ◌⊎◌, List, slice_index_or}
use Rattle.std.specs.List.{list_any}
use Rattle.mf_types.specs.Ascent.{parent_at, up}
use Rattle.mf_types.specs.BelowTop.{descends}

-- the marks have one place for each type
abbrev pub is_marked : List Bool → ℕ → Bool
is_marked marks t = slice_index_or marks t false

-- whether a type is one of these, or stands above one of them
abbrev pub is_above : List ℕ → List ℕ → ℕ → Bool
is_above parents types t = list_any (λ own. descends parents own t) types

-- marked are these types and those above them, and no others
abbrev pub Marks : List ℕ → List ℕ → List Bool → Type 0
Marks parents types marks = (t : ℕ) → is_marked marks t ≡ is_above parents types t

-- with a type its parent is marked
abbrev pub AreClosed : List ℕ → List Bool → Type 0
AreClosed parents marks = (t : ℕ) → is_marked marks t ≡ true → (t ≡ 0) ⊎ (is_marked marks (parent_at parents t) ≡ true)

-- one more type is marked, and all above it
pub record MarksMore (parents : List ℕ) (from : ℕ) (old new : List Bool) : Type 0 where
  pub closed : AreClosed parents new
  pub marked : (t : ℕ) → is_marked new t ≡ (is_marked old t || descends parents from t)

-- with each type its parent is marked, and with type 0 what `object` descends from
abbrev pub AreClosedAbove : List ℕ → List Bool → Type 0
AreClosedAbove parents marks = (t : ℕ) → is_marked marks t ≡ true → is_marked marks (parent_at parents t) ≡ true

-- some steps up from the type a marked one is met
pub record LeadsToMark (parents : List ℕ) (marks : List Bool) (t : ℕ) : Type 0 where
  pub steps : ℕ
  pub there : is_marked marks (up parents steps t) ≡ true
