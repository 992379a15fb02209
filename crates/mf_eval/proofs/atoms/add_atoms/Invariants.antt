use Rattle.std.proofs.Common.{◌≡◌, drop}
use Rattle.std.specs.List.{flat_map, fold}
use Rattle.mf_model.specs.Application.{added}
use Rattle.mf_model.specs.States.{atom_before, with_atom}
use Rattle.mf_meaning.specs.SortedStates.{IsSortedList}
use Rattle.mf_eval.specs.Fired.{changes_in}
use Rattle.mf_eval.proofs.atoms.add_atoms.Given as goal

abbrev pub invariant-loop-deed : goal.invariant-loop-deed
invariant-loop-deed l = record {
  sorted : IsSortedList atom_before l.atoms.items;
  rest : fold with_atom l.atoms.items (flat_map added (changes_in (drop l.deed-index l.deeds))) ≡ fold with_atom l.fn.atoms.items (flat_map added (changes_in l.deeds));
}
