use Rattle.std.proofs.Common.{◌≡◌, [], drop}
use Rattle.std.specs.List.{fold}
use Rattle.mf_model.specs.States.{with_atom}
use Rattle.mf_eval.proofs.start.atom_set.Given as goal

abbrev pub invariant-loop-atom : goal.invariant-loop-atom
invariant-loop-atom l = fold with_atom l.atoms.keys (drop l.atom-index l.listed) ≡ fold with_atom [] l.listed
