-- Typed lists: the items of a group have the same types.
use Rattle.std.specs.Prelude.{◌≡◌, ℕ, ◌-◌, ◌<◌, Bool, false, true, List, [], length, map, get_or}
use Rattle.mf_model.specs.declared.form.Word.{Word}
use Rattle.mf_model.specs.declared.form.Typed.{Typed}

-- words as items of these types
abbrev pub typed_as : List Word → List Word → List Typed
typed_as types words = map (λ w. record { word = w; types = types }) words

abbrev pub types_at : List Typed → ℕ → List Word
types_at items n = get_or (map (λ item. item.types) items) n []

-- the item at a place has the types of the one before it
abbrev pub IsAlike : List Typed → ℕ → Type 0
IsAlike items n = (0 < n) × (types_at items n ≡ types_at items (n - 1))

-- one mark for each item; a marked one has the types of the one before it
abbrev pub AreMarked : List Bool → List Typed → Type 0
AreMarked marks items = (length marks ≡ length items) × ((n : ℕ) → get_or marks n false ≡ true → IsAlike items n)
