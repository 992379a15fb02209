use Rattle.std.proofs.Common.{◌≡◌, [], ◌++◌}
use Rattle.std.specs.List.{fold}
use Rattle.mf_model.specs.States.{with_atom}
use Rattle.mf_eval.proofs.start.start_atoms.Given as goal

abbrev pub invariant-loop-atom : goal.invariant-loop-atom
invariant-loop-atom l = l.sorted.items ++ l.atom-iterator ≡ fold with_atom [] l.listed
