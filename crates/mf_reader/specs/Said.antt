-- What is said of a tree at a place: all faults that stand in it, in the order of the text, and the value that
-- it gives where there is none.
use Rattle.std.specs.Prelude.{◌≡◌, List, [], ◌∷◌, ◌++◌, Result, Ok, Err}
use Rattle.mf_model.specs.declared.token.Span.{Span}
use Rattle.mf_reader.specs.declared.fault.FormFault.{FormFault}
use Rattle.mf_reader.specs.declared.fault.FormFault.TheVariants.{UnknownRequirement, LeftOut, BadForm, Memory}

pub record Said (A : Type 0) : Type 0 where
  pub faults : List FormFault
  pub value : A

abbrev pub said : {A : Type 0} → A → Said A
said v = record { faults = []; value = v }

-- one fault; the value stands for none
abbrev pub faulty : {A : Type 0} → FormFault → A → Said A
faulty fault v = record { faults = fault ∷ []; value = v }

abbrev pub bad : {A : Type 0} → Span → A → Said A
bad span v = faulty (BadForm span) v

abbrev pub left_out : {A : Type 0} → Span → A → Said A
left_out span v = faulty (LeftOut span) v

-- two parts, one behind the other
abbrev pub both : {A B C : Type 0} → (A → B → C) → Said A → Said B → Said C
both f x y = record { faults = x.faults ++ y.faults; value = f x.value y.value }

abbrev pub mapped : {A B : Type 0} → (A → B) → Said A → Said B
mapped f x = record { faults = x.faults; value = f x.value }

-- parts one behind the other
abbrev pub each : {A B : Type 0} → (A → Said B) → List A → Said (List B)
each f [] = said []
each f (x ∷ xs) = both (λ v vs. v ∷ vs) (f x) (each f xs)

-- what was said so far, and then the rest
abbrev pub behind : {A : Type 0} → List A → Said (List A) → Said (List A)
behind front rest = record { faults = rest.faults; value = front ++ rest.value }

abbrev pub FirstIs : FormFault → List FormFault → Type 0
FirstIs fault [] = ⊥
FirstIs fault (first ∷ faults) = first ≡ fault

-- want of memory says nothing of the tree
abbrev pub Refuses : FormFault → List FormFault → Type 0
Refuses Memory faults = Unit {0}
Refuses (UnknownRequirement span) faults = FirstIs (UnknownRequirement span) faults
Refuses (LeftOut span) faults = FirstIs (LeftOut span) faults
Refuses (BadForm span) faults = FirstIs (BadForm span) faults

-- a call answers the value where no fault stands, and else the first fault
abbrev pub Gives : {A : Type 0} → Result A FormFault → Said A → Type 0
Gives (Ok v) x = (x.faults ≡ []) × (x.value ≡ v)
Gives (Err fault) x = Refuses fault x.faults

-- no fault stands, and this is the value
abbrev pub IsWhole : {A : Type 0} → Said A → A → Type 0
IsWhole x v = (x.faults ≡ []) × (x.value ≡ v)
