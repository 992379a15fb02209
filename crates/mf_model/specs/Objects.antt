-- Objects, their types, and the lists of objects that fit a list of types.
use Rattle.std.specs.Prelude.{ℕ, zero, suc, ◌+◌, Bool, IsTrue, if◌then◌else◌, nat_eq, List, [], ◌∷◌, ◌++◌, map, length, All}
use Rattle.std.specs.List.{flat_map, list_any, slice_index_or}
use Rattle.mf_model.specs.declared.task.TypedTask.{TypedTask}

abbrev pub member : ℕ → List ℕ → Bool
member n ns = list_any (λ m. nat_eq n m) ns

abbrev pub meets : List ℕ → List ℕ → Bool
meets ns ms = list_any (λ n. member n ms) ns

-- a type, its parent, the parent's parent and so on up to type 0, which is `object`: at most n of them
abbrev pub ancestors : List ℕ → ℕ → ℕ → List ℕ
ancestors parents zero t = []
ancestors parents (suc n) t = t ∷ (if nat_eq t 0 then [] else ancestors parents n (slice_index_or parents t 0))

abbrev pub parents_of : TypedTask → List ℕ
parents_of task = map (λ t. t.parent) task.types

-- for each object all types that it has: its declared ones and those from which they descend
abbrev pub kinds_of : TypedTask → List (List ℕ)
kinds_of task = map (λ o. flat_map (ancestors (parents_of task) (length task.types)) o.types) task.objects

-- each object has the type `object`, from which all types descend
abbrev pub HaveTopType : TypedTask → Type 0
HaveTopType task = All (λ kinds. IsTrue (meets (0 ∷ []) kinds)) (kinds_of task)

-- the numbers, from n on, of the objects that have one of the types
abbrev pub having : List ℕ → ℕ → List (List ℕ) → List ℕ
having types n [] = []
having types n (kinds ∷ others) = if meets types kinds then n ∷ having types (n + 1) others else having types (n + 1) others

-- the binding b with an object for each of the lists of types added at its end, in every way:
-- in lexicographic order of the objects' numbers
abbrev pub bindings : List (List ℕ) → List (List ℕ) → List ℕ → List (List ℕ)
bindings objects [] b = b ∷ []
bindings objects (types ∷ others) b = flat_map (λ o. bindings objects others (b ++ o ∷ [])) (having types 0 objects)
