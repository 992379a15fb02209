-- Changes of atoms and terms that are the packed task's.
use Rattle.std.specs.Prelude.{◌≡◌, true, false}
use Rattle.std.specs.List.{list_any}
use Rattle.mf_model.specs.declared.task.TypedTask.{TypedTask}
use Rattle.mf_model.specs.Application.{Change, Added, Deleted, Changed}
use Rattle.mf_model.specs.Functions.{is_cost}
use Rattle.mf_model.specs.States.{is_atom}
use Rattle.mf_task.specs.declared.task.Task.{Task}
use Rattle.mf_task.specs.Grounding.{is_same_cell}

-- the atom is among its atoms, and the term, unless it is one of a cost function, among its terms
abbrev pub IsListedChange : TypedTask → Task → Change → Type 0
IsListedChange task packed (Added predicate objects) = list_any (is_atom predicate objects) packed.atoms ≡ true
IsListedChange task packed (Deleted predicate objects) = list_any (is_atom predicate objects) packed.atoms ≡ true
IsListedChange task packed (Changed op function objects value) = is_cost task function ≡ false → list_any (is_same_cell function objects) packed.terms ≡ true
