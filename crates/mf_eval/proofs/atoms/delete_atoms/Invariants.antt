use Rattle.std.proofs.Common.{◌≡◌, drop}
use Rattle.std.specs.List.{flat_map, fold}
use Rattle.mf_model.specs.Application.{deleted}
use Rattle.mf_model.specs.States.{atom_before, without_atom}
use Rattle.mf_meaning.specs.SortedStates.{IsSortedList}
use Rattle.mf_eval.specs.Fired.{changes_in}
use Rattle.mf_eval.proofs.atoms.delete_atoms.Given as goal

abbrev pub invariant-loop-deed : goal.invariant-loop-deed
invariant-loop-deed l = record {
  sorted : IsSortedList atom_before l.atoms.items;
  rest : fold without_atom l.atoms.items (flat_map deleted (changes_in (drop l.deed-index l.deeds))) ≡ fold without_atom l.fn.atoms.items (flat_map deleted (changes_in l.deeds));
}
