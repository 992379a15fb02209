-- The search state that a row stands for.
use Rattle.std.specs.Prelude.{ℕ, ◌+◌, ◌&&◌, not, if◌then◌else◌, List, [], ◌∷◌, filter, get_or, Option, Some, None}
use Rattle.std.specs.List.{fold}
use Rattle.mf_fraction.specs.Exact.{Number}
use Rattle.mf_store.specs.Rows.{RowLists, bit_in}
use Rattle.mf_model.specs.declared.task.Atom.{Atom}
use Rattle.mf_model.specs.declared.task.Cell.{Cell}
use Rattle.mf_model.specs.declared.task.Valued.{Valued}
use Rattle.mf_model.specs.declared.task.TypedTask.{TypedTask}
use Rattle.mf_model.specs.declared.state.PlainState.{PlainState}
use Rattle.mf_model.specs.Functions.{is_constant, is_cost, is_static}
use Rattle.mf_model.specs.States.{start_of, with_atom, with_value}
use Rattle.mf_task.specs.declared.task.Task.{Task}

-- the atoms, numbered from n on, whose bit is set
abbrev pub atoms_shown : List ℕ → ℕ → List Atom → List Atom
atoms_shown bits n [] = []
atoms_shown bits n (a ∷ atoms) = if bit_in bits n then a ∷ atoms_shown bits (n + 1) atoms else atoms_shown bits (n + 1) atoms

abbrev pub valued : Cell → Option Number → List Valued → List Valued
valued cell (Some value) others = record { cell = cell; value = value } ∷ others
valued cell None others = others

-- the terms, numbered from n on, that have a value
abbrev pub values_shown : List (Option Number) → ℕ → List Cell → List Valued
values_shown values n [] = []
values_shown values n (cell ∷ cells) = valued cell (get_or values n None) (values_shown values (n + 1) cells)

-- static atoms and the terms of constant functions are those of the start
abbrev pub state_of : TypedTask → Task → RowLists → PlainState
state_of task packed row = record {
  atoms = fold with_atom (filter (λ atom. is_static task atom.predicate) (start_of task).atoms) (atoms_shown row.bits 0 packed.atoms);
  values = fold with_value (filter (λ v. is_constant task v.cell.function && not (is_cost task v.cell.function)) (start_of task).values) (values_shown row.values 0 packed.terms);
}
