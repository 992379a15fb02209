-- Where types stand in their trees: below which root, how many steps up to it, and an ancestor to jump to.
use Rattle.std.specs.Prelude.{◌≡◌, ◌≢◌, ℕ, zero, suc, ◌-◌, ◌<◌, ◌≤◌, Bool, ◌&&◌, nat_eq, nat_le, Option, None, IfSome, List, length, slice_index_or}
use Rattle.mf_types.specs.declared.ancestry.Ancestor.{Ancestor}
use Rattle.mf_types.specs.declared.places.Place.{Place}
use Rattle.mf_types.specs.Ascent.{parent_at, up}

-- so many steps lead up to the root, and no fewer, and past no type 0
abbrev pub HasDepth : List ℕ → ℕ → ℕ → ℕ → Type 0
HasDepth parents root zero t = t ≡ root
HasDepth parents root (suc depth) t = (t ≢ 0) × ((t ≢ root) × HasDepth parents root depth (parent_at parents t))

-- what is so many steps up, where the depths are these, is the other type
abbrev pub climbs_to : List ℕ → ℕ → ℕ → ℕ → ℕ → Bool
climbs_to parents from to t u = nat_le to from && nat_eq (up parents (from - to) t) u

-- the other type stands so many steps up, and no more than this
pub record Leads (parents : List ℕ) (most t other : ℕ) : Type 0 where
  pub steps : ℕ
  pub few : steps ≤ most
  pub there : up parents steps t ≡ other

-- the depth of the type, and an ancestor, which has less depth
pub record IsPlace (parents : List ℕ) (t : ℕ) (place : Place) : Type 0 where
  pub depth : HasDepth parents place.root place.depth t
  pub few : place.depth < length parents
  pub jump : Leads parents place.depth t place.jump
  pub some : t ≢ place.root → 0 < jump.steps

abbrev pub place_at : List (Option Place) → ℕ → Option Place
place_at places t = slice_index_or places t None

-- each type that has a place stands there
abbrev pub ArePlaces : List ℕ → List (Option Place) → Type 0
ArePlaces parents places = (t : ℕ) → IfSome (place_at places t) (IsPlace parents t)

-- a type with the root and the depth that it says
abbrev pub Stands : List ℕ → Ancestor → Type 0
Stands parents own = HasDepth parents own.root own.depth own.number

-- the one is an ancestor of the other in the same tree, with the depth that it says
pub record IsAncestor (parents : List ℕ) (from ancestor : Ancestor) : Type 0 where
  pub root : ancestor.root ≡ from.root
  pub depth : Stands parents ancestor
  pub less : ancestor.depth < from.depth
  pub there : up parents (from.depth - ancestor.depth) from.number ≡ ancestor.number
