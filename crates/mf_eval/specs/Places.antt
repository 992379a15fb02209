-- The place of an atom or of a value in a sorted list, or the place where it would go, and what the list becomes there.
use Rattle.std.specs.Prelude.{◌≡◌, ℕ, ◌<◌, ◌≤◌, List, length, insert, remove, slice_set, Result, Ok, Err}
use Rattle.mf_model.specs.declared.task.Atom.{Atom}
use Rattle.mf_model.specs.declared.task.Valued.{Valued}
use Rattle.mf_model.specs.States.{with_atom, without_atom, with_value}

abbrev pub IsAtomPlace : List Atom → Atom → Result ℕ ℕ → Type 0
IsAtomPlace atoms atom (Ok at) = (at < length atoms) × (with_atom atoms atom ≡ atoms) × (without_atom atoms atom ≡ remove atoms at)
IsAtomPlace atoms atom (Err at) = (at ≤ length atoms) × (with_atom atoms atom ≡ insert atoms at atom) × (without_atom atoms atom ≡ atoms)

abbrev pub IsValuePlace : List Valued → Valued → Result ℕ ℕ → Type 0
IsValuePlace values valued (Ok at) = (at < length values) × (with_value values valued ≡ slice_set values at valued)
IsValuePlace values valued (Err at) = (at ≤ length values) × (with_value values valued ≡ insert values at valued)
