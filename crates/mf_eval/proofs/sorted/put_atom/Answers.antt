use Rattle.std.proofs.Common.{◌≡◌, rules, subst, sym}
use Rattle.mf_model.specs.States.{atom_before, with_atom}
use Rattle.mf_meaning.specs.SortedStates.{IsSortedList}
use Rattle.mf_meaning.proofs.SortedLists.{sorted-with_atom}
use Rattle.mf_eval.proofs.sorted.put_atom.Goals as goal

pub returns-in_ok-insert-clause-sorted : goal.returns-in_ok-insert-clause-sorted
returns-in_ok-insert-clause-sorted c =
    let put : c.insert.new.self.items ≡ with_atom c.args.atoms.now.items c.args.atom = search rules in
    subst (IsSortedList atom_before) (sym put) (sorted-with_atom c.args.atoms.now.items c.args.atom c.requires)
