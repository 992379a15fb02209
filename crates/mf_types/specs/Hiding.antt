-- Variables in scope found by a table of names: each variable remembers the place of the outer one of the same
-- name, which it hides.
use Rattle.std.specs.Prelude.{◌≡◌, ℕ, Option, Some, None, List, [], ◌∷◌, ◌++◌, map, if◌then◌else◌, Vec}
use Rattle.std.specs.Str.{bytes_eq}
use Rattle.indexmap.specs.IndexMap.{IndexMap, get_by}
use Rattle.mf_types.specs.declared.binders.Binder.{Binder}
use Rattle.mf_types.specs.Typing.{Binders, place_in}

-- the place that a table has for a name
abbrev pub place_of : {Z S : Type 0} → IndexMap (Vec ℕ Z) ℕ S → List ℕ → Option ℕ
place_of places name = get_by (λ key. bytes_eq name key.items) places

-- a table after another place is given to a name, or none
abbrev pub Notes : (List ℕ → Option ℕ) → List ℕ → Option ℕ → (List ℕ → Option ℕ) → Type 0
Notes old name place new = (other : List ℕ) → new other ≡ (if bytes_eq name other then place else old other)

abbrev pub names_of : List Binder → Binders
names_of stack = map (λ binder. binder.name) stack

-- each variable remembers the innermost place of its name among those further out
abbrev pub RememberHidden : Binders → List Binder → Type 0
RememberHidden outer [] = Unit {0}
RememberHidden outer (binder ∷ others) = (binder.hidden ≡ place_in outer binder.name) × RememberHidden (outer ++ binder.name ∷ []) others

-- the types that are found, else these
abbrev pub types_else : Option (List ℕ) → List ℕ → List ℕ
types_else (Some types) own = types
types_else None own = own

-- for every name a table has the innermost place
pub record IsKept (find : List ℕ → Option ℕ) (stack : List Binder) : Type 0 where
  pub found : (name : List ℕ) → find name ≡ place_in (names_of stack) name
  pub hidden : RememberHidden [] stack
