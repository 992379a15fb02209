use Rattle.std.proofs.Common.{◌≡◌, ◌≤◌, length, drop}
use Rattle.mf_model.specs.States.{same_numbers}
use Rattle.mf_model.specs.Views.{objects_of}
use Rattle.mf_plain.proofs.terms.stand_for.Given as goal

abbrev pub invariant-loop-i : goal.invariant-loop-i
invariant-loop-i l = record { within : l.i ≤ length l.objects; rest : same_numbers (drop l.i (objects_of l.binding l.terms)) (drop l.i l.objects) ≡ same_numbers (objects_of l.binding l.terms) l.objects }
