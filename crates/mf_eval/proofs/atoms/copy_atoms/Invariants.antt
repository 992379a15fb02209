use Rattle.std.proofs.Common.{◌≡◌, take}
use Rattle.mf_eval.proofs.atoms.copy_atoms.Given as goal

abbrev pub invariant-loop-atom : goal.invariant-loop-atom
invariant-loop-atom l = l.copies.items ≡ take l.atom-index l.atoms
