-- Variables in scope: an action's parameters first, then the variables of quantifiers from the outside in.
use Rattle.std.specs.Prelude.{ℕ, suc, Bool, if◌then◌else◌, Option, Some, None, List, [], ◌∷◌, map}
use Rattle.std.specs.Str.{bytes_eq}
use Rattle.mf_model.specs.Resolution.{typed_names}
use Rattle.mf_model.specs.declared.form.Typed.{Typed}
use Rattle.mf_types.specs.Names.{item_types}

-- a variable with its declared types
pub record Variable : Type 0 where
  pub name : List ℕ
  pub types : List ℕ

abbrev pub variable : List ℕ → List ℕ → Variable
variable name types = record { name = name; types = types }

abbrev pub Scope : Type 0
Scope = List Variable

-- the types of the first item of a name
abbrev pub first_types : List (List ℕ) → List Typed → List ℕ → List ℕ
first_types names [] name = []
first_types names (item ∷ items) name = if bytes_eq item.word.text name then item_types names item else first_types names items name

-- of two variables of one name in one list the first is meant, so that both have its types
abbrev pub variable_of : List (List ℕ) → List Typed → List ℕ → Variable
variable_of names items name = variable name (first_types names items name)

abbrev pub variables_of : List (List ℕ) → List Typed → Scope
variables_of names items = map (variable_of names items) (typed_names items)

-- a variable of a name, with its place in the binding
pub record Placed : Type 0 where
  pub place : ℕ
  pub variable : Variable

abbrev pub inner : Option Placed → Bool → ℕ → Variable → Option Placed
inner (Some placed) same n variable = Some placed
inner None same n variable = if same then Some (record { place = n; variable = variable }) else None

abbrev pub find_from : ℕ → Scope → List ℕ → Option Placed
find_from n [] name = None
find_from n (v ∷ vs) name = inner (find_from (suc n) vs name) (bytes_eq v.name name) n v

-- the innermost variable of a name: it hides those further out
abbrev pub find_in : Scope → List ℕ → Option Placed
find_in scope name = find_from 0 scope name
