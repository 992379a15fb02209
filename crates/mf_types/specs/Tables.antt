-- What contracts see of the tables of names, and how a table grows.
use Rattle.std.specs.Prelude.{ℕ, if◌then◌else◌, Option, Some, None, List, [], ◌∷◌, ◌++◌, map, slice_index_or}
use Rattle.std.specs.Borrow.{Bor}
use Rattle.mf_model.specs.Resolution.{number_of}
use Rattle.mf_types.specs.declared.tables.Tables.{Tables}
use Rattle.mf_types.specs.Names.{Declared, head_or_zero, is_member}

abbrev pub declared_of : Tables → Declared
declared_of t = record {
  types = t.types;
  parents = t.parents;
  objects = t.objects;
  object_types = t.object_types;
  predicates = t.predicates;
  predicate_types = t.predicate_types;
  functions = t.functions;
  function_types = t.function_types;
  changed = t.changed;
}

abbrev pub with_name : List (List ℕ) → List ℕ → List (List ℕ)
with_name names name = if is_member names name then names else names ++ name ∷ []

-- the names with those of the second list behind them, each once
abbrev pub entered : List (List ℕ) → List (List ℕ) → List (List ℕ)
entered names [] = names
entered names (more ∷ others) = entered (with_name names more) others

-- the first of the types at a number, or type 0
abbrev pub first_at : List (List ℕ) → Option ℕ → ℕ
first_at types None = 0
first_at types (Some n) = head_or_zero (slice_index_or types n [])

-- the parent of a type by the names of the items, each once, and their types
abbrev pub parent_by : List (List ℕ) → List (List ℕ) → List ℕ → ℕ
parent_by own types name = first_at types (number_of own name)

-- what a list of references points to
abbrev pub pointed : {A : Type 0} → List (Bor A) → List A
pointed {A = A} references = map (λ (reference : Bor A). reference.now) references
