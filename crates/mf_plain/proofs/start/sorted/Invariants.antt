use Rattle.std.proofs.Common.{◌≡◌, [], take}
use Rattle.std.specs.List.{fold}
use Rattle.mf_model.specs.States.{with_atom}
use Rattle.mf_plain.proofs.start.sorted.Given as goal

abbrev pub invariant-loop-atom : goal.invariant-loop-atom
invariant-loop-atom l = l.list ≡ fold with_atom [] (take l.atom-index l.atoms)
