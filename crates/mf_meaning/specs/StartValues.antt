-- What is in each reached state as it is at the start: the atoms of static predicates, and the values of constant functions.
use Rattle.std.specs.Prelude.{◌≡◌, ℕ, true, List}
use Rattle.std.specs.List.{list_any}
use Rattle.mf_model.specs.declared.task.TypedTask.{TypedTask}
use Rattle.mf_model.specs.declared.state.PlainState.{PlainState}
use Rattle.mf_model.specs.Functions.{is_constant, is_static}
use Rattle.mf_model.specs.States.{is_atom, start_of, value_at}

-- an atom of a static predicate is true exactly where it is at the start
abbrev pub HasStartAtoms : TypedTask → PlainState → Type 0
HasStartAtoms task state =
    (predicate : ℕ) (objects : List ℕ) → is_static task predicate ≡ true
    → list_any (is_atom predicate objects) state.atoms ≡ list_any (is_atom predicate objects) (start_of task).atoms

-- a term of a constant function has the value that it has at the start, or none where it has none there
abbrev pub HasStartConstants : TypedTask → PlainState → Type 0
HasStartConstants task state =
    (function : ℕ) (objects : List ℕ) → is_constant task function ≡ true
    → value_at state.values function objects ≡ value_at (start_of task).values function objects
