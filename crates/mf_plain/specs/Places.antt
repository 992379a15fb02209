-- Where an atom stands in a sorted list of atoms.
use Rattle.std.specs.Prelude.{◌≡◌, ◌≤◌, List, length, insert}
use Rattle.mf_model.specs.declared.task.Atom.{Atom}
use Rattle.mf_model.specs.States.{with_atom}
use Rattle.mf_plain.specs.declared.order.Place.{Place}
use Rattle.mf_plain.specs.declared.order.Place.TheVariants.{There, New}

-- The list with the atom is the list itself, or the list with the atom put at the place.
abbrev pub IsPlaceOf : List Atom → Atom → Place → Type 0
IsPlaceOf atoms atom There = with_atom atoms atom ≡ atoms
IsPlaceOf atoms atom (New at) = (at ≤ length atoms) × (with_atom atoms atom ≡ insert atoms at atom)
