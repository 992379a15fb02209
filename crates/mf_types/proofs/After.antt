-- The least of faults found one after another is the least of all of them.
use Rattle.std.proofs.Common.{◌≡◌, refl, List, [], ◌∷◌, ◌++◌, Option}
use Rattle.mf_types.specs.declared.least.Fault.{Fault}
use Rattle.mf_types.specs.Faults.{least, after}

-- going on behind a first list is going through both
pub after_append : (best : Option Fault) (fs gs : List Fault) → after (after best fs) gs ≡ after best (fs ++ gs)
after_append best [] gs = refl
after_append best (f ∷ fs) gs = after_append (least best f) fs gs
