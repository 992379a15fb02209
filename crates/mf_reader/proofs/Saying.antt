-- Faults of parts that stand one behind the other.
use Rattle.std.proofs.Common.{List, [], ◌∷◌, ◌++◌}
use Rattle.mf_reader.specs.declared.fault.FormFault.{FormFault}
use Rattle.mf_reader.specs.declared.fault.FormFault.TheVariants.{UnknownRequirement, LeftOut, BadForm, Memory}
use Rattle.mf_reader.specs.Said.{FirstIs, Refuses}

first_stays : (fault : FormFault) (xs ys : List FormFault) → FirstIs fault xs → FirstIs fault (xs ++ ys)
first_stays fault [] ys h = absurd h
first_stays fault (x ∷ xs) ys h = h

-- a fault of the first part is a fault of both
pub refuses_front : (fault : FormFault) (xs ys : List FormFault) → Refuses fault xs → Refuses fault (xs ++ ys)
refuses_front Memory xs ys h = tt
refuses_front (UnknownRequirement span) xs ys h = first_stays (UnknownRequirement span) xs ys h
refuses_front (LeftOut span) xs ys h = first_stays (LeftOut span) xs ys h
refuses_front (BadForm span) xs ys h = first_stays (BadForm span) xs ys h
