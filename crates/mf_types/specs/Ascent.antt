-- Going up from a type to its parent, the parent's parent and so on, and what is known of the types that were passed.
use Rattle.std.specs.Prelude.{◌≡◌, ℕ, zero, suc, ◌<◌, ◌≤◌, true, false, List, length, slice_index_or}
use Rattle.mf_model.specs.Objects.{member}
use Rattle.mf_types.specs.declared.cycles.Climb.{Climb}
use Rattle.mf_types.specs.Cycles.{is_top, begins_cycle, with_type}

abbrev pub parent_at : List ℕ → ℕ → ℕ
parent_at parents t = slice_index_or parents t 0

-- the type so many steps up
abbrev pub up : List ℕ → ℕ → ℕ → ℕ
up parents zero t = t
up parents (suc n) t = up parents n (parent_at parents t)

-- a type that is met again on the way up from it, before the top
pub record IsOnCycle (parents : List ℕ) (t : ℕ) : Type 0 where
  pub steps : ℕ
  pub some : 0 < steps
  pub few : steps ≤ length parents
  pub back : up parents steps t ≡ t
  pub open_below : (i : ℕ) → i < steps → is_top parents (up parents i t) ≡ false

-- one of these types is met on the way up, or is the type itself
pub record Meets (parents : List ℕ) (t : ℕ) (types : List ℕ) : Type 0 where
  pub steps : ℕ
  pub there : member (up parents steps t) types ≡ true

-- where these types stand before, the type begins no cycle: it is on none, or one of them is on the same
abbrev pub BeginsNone : (parents before : List ℕ) → ℕ → Type 0
BeginsNone parents before t = IsOnCycle parents t → Meets parents t before

-- each type before is settled, and the settled types begin no cycle
pub record Settles (parents before settled : List ℕ) : Type 0 where
  pub each : (t : ℕ) → member t before ≡ true → member t settled ≡ true
  pub none : (t : ℕ) → member t settled ≡ true → BeginsNone parents before t

-- the way up from a type tells whether it begins a cycle, and leads to a type that begins none
pub record IsClimb (parents before : List ℕ) (t : ℕ) (climb : Climb) : Type 0 where
  pub returned : climb.returned ≡ begins_cycle parents before t
  pub leads : BeginsNone parents (with_type before t) (up parents climb.steps t)

-- the type and so many above it are settled too
pub record SettlesMore (parents : List ℕ) (t steps : ℕ) (old new : List ℕ) : Type 0 where
  pub kept : (s : ℕ) → member s old ≡ true → member s new ≡ true
  pub itself : member t new ≡ true
  pub none : (before : List ℕ) → ((s : ℕ) → member s old ≡ true → BeginsNone parents before s) → BeginsNone parents before (up parents steps t)
      → (s : ℕ) → member s new ≡ true → BeginsNone parents before s
