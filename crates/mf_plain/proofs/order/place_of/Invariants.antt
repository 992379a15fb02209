use Rattle.std.proofs.Common.{◌≡◌, ◌++◌, take, drop}
use Rattle.mf_model.specs.States.{with_atom}
use Rattle.mf_plain.proofs.order.place_of.Given as goal

abbrev pub invariant-loop-i : goal.invariant-loop-i
invariant-loop-i l = with_atom l.atoms l.atom ≡ take l.i l.atoms ++ with_atom (drop l.i l.atoms) l.atom
