-- The order in which faults stand in a file.
use Rattle.std.specs.Prelude.{◌≡◌, ℕ, ◌<◌, ◌⊎◌, List, [], ◌∷◌}
use Rattle.std.specs.List.{AllByRecursion}
use Rattle.mf_reader.specs.declared.fault.FormFault.{FormFault}
use Rattle.mf_reader.specs.declared.fault.FormFault.TheVariants.{UnknownRequirement, LeftOut, BadForm, Memory}

abbrev pub start_of : FormFault → ℕ
start_of (UnknownRequirement span) = span.start
start_of (LeftOut span) = span.start
start_of (BadForm span) = span.start
start_of Memory = 0

-- each fault stands behind all those before it, and so no two at one place
abbrev pub AreInOrder : List FormFault → Type 0
AreInOrder [] = Unit {0}
AreInOrder (fault ∷ faults) = AllByRecursion (λ later. start_of fault < start_of later) faults × AreInOrder faults

-- each fault stands behind this one, or is this one
abbrev pub IsLeast : FormFault → List FormFault → Type 0
IsLeast fault faults = AllByRecursion (λ other. (other ≡ fault) ⊎ (start_of fault < start_of other)) faults

-- the least fault, but for want of memory, which says nothing of the tree
abbrev pub IsAnsweredFault : FormFault → List FormFault → Type 0
IsAnsweredFault Memory faults = Unit {0}
IsAnsweredFault (UnknownRequirement span) faults = IsLeast (UnknownRequirement span) faults
IsAnsweredFault (LeftOut span) faults = IsLeast (LeftOut span) faults
IsAnsweredFault (BadForm span) faults = IsLeast (BadForm span) faults
