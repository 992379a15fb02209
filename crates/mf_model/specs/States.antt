-- Plain states: the sorted list of the true ground atoms with the sorted list of the defined ground terms and their values.
use Rattle.std.specs.Prelude.{ℕ, Bool, true, false, ◌&&◌, ◌||◌, not, if◌then◌else◌, nat_eq, nat_lt, List, [], ◌∷◌, filter, Option, Some, None}
use Rattle.std.specs.List.{fold, list_any}
use Rattle.std.specs.Cmp.Lexicographic.{pointwise}
use Rattle.mf_fraction.specs.Exact.{Number}
use Rattle.mf_model.specs.declared.task.Atom.{Atom}
use Rattle.mf_model.specs.declared.task.Cell.{Cell}
use Rattle.mf_model.specs.declared.task.Valued.{Valued}
use Rattle.mf_model.specs.declared.task.TypedTask.{TypedTask}
use Rattle.mf_model.specs.declared.state.PlainState.{PlainState}
use Rattle.mf_model.specs.Views.{Look}

abbrev pub same_numbers : List ℕ → List ℕ → Bool
same_numbers = pointwise nat_eq

-- lexicographic order
abbrev pub numbers_before : List ℕ → List ℕ → Bool
numbers_before ns [] = false
numbers_before [] (m ∷ ms) = true
numbers_before (n ∷ ns) (m ∷ ms) = nat_lt n m || (nat_eq n m && numbers_before ns ms)

abbrev pub is_atom : ℕ → List ℕ → Atom → Bool
is_atom predicate objects a = nat_eq predicate a.predicate && same_numbers objects a.objects

abbrev pub same_atom : Atom → Atom → Bool
same_atom a b = is_atom a.predicate a.objects b

-- atoms are ordered by predicate, then by objects
abbrev pub atom_before : Atom → Atom → Bool
atom_before a b = nat_lt a.predicate b.predicate || (nat_eq a.predicate b.predicate && numbers_before a.objects b.objects)

-- a sorted list of atoms with one more, at its place
abbrev pub with_atom : List Atom → Atom → List Atom
with_atom [] a = a ∷ []
with_atom (b ∷ bs) a = if same_atom a b then b ∷ bs else (if atom_before a b then a ∷ b ∷ bs else b ∷ with_atom bs a)

abbrev pub without_atom : List Atom → Atom → List Atom
without_atom bs a = filter (λ b. not (same_atom a b)) bs

abbrev pub is_cell : ℕ → List ℕ → Valued → Bool
is_cell function objects v = nat_eq function v.cell.function && same_numbers objects v.cell.objects

abbrev pub same_cell : Valued → Valued → Bool
same_cell v w = is_cell v.cell.function v.cell.objects w

-- terms are ordered by function, then by objects
abbrev pub term_before : Cell → Cell → Bool
term_before c d = nat_lt c.function d.function || (nat_eq c.function d.function && numbers_before c.objects d.objects)

abbrev pub cell_before : Valued → Valued → Bool
cell_before v w = term_before v.cell w.cell

-- a sorted list of values with this one, in the place of an older value of its term
abbrev pub with_value : List Valued → Valued → List Valued
with_value [] v = v ∷ []
with_value (w ∷ ws) v = if same_cell v w then v ∷ ws else (if cell_before v w then v ∷ w ∷ ws else w ∷ with_value ws v)

abbrev pub value_at : List Valued → ℕ → List ℕ → Option Number
value_at [] function objects = None
value_at (v ∷ vs) function objects = if is_cell function objects v then Some v.value else value_at vs function objects

-- the state as conditions and effects see it, after so many steps
abbrev pub look_after : ℕ → PlainState → Look
look_after steps state = record {
  atom = λ predicate objects. list_any (is_atom predicate objects) state.atoms;
  value = value_at state.values;
  steps = steps;
}

abbrev pub look_of : PlainState → Look
look_of = look_after 0

abbrev pub start_of : TypedTask → PlainState
start_of task = record { atoms = fold with_atom [] task.atoms; values = fold with_value [] task.values }
