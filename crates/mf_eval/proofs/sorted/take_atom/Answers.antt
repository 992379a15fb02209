use Rattle.std.proofs.Common.{◌≡◌, rules, subst, sym}
use Rattle.mf_model.specs.States.{atom_before, without_atom}
use Rattle.mf_meaning.specs.SortedStates.{IsSortedList}
use Rattle.mf_meaning.proofs.SortedLists.{sorted-without_atom}
use Rattle.mf_eval.proofs.sorted.take_atom.Goals as goal

pub returns-in-Ok-clause-sorted : goal.returns-in-Ok-clause-sorted
returns-in-Ok-clause-sorted c =
    let taken : c.remove.new.self.items ≡ without_atom c.args.atoms.now.items c.args.atom.now = search rules in
    subst (IsSortedList atom_before) (sym taken) (sorted-without_atom c.args.atoms.now.items c.args.atom.now c.requires)
