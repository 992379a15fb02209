use Rattle.std.proofs.Common.{◌≡◌, drop}
use Rattle.mf_model.specs.States.{same_numbers}
use Rattle.mf_model.specs.Views.{objects_of}
use Rattle.mf_normal.proofs.binding.stand_for.Given as goal

abbrev pub invariant-loop-at : goal.invariant-loop-at
invariant-loop-at l =
    same_numbers (objects_of l.binding (drop l.at l.terms)) (drop l.at l.objects) ≡ same_numbers (objects_of l.binding l.terms) l.objects
