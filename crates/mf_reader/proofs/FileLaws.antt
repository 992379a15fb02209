-- What the definitions of files say of the answers of calls.
use Rattle.std.proofs.Common.{◌≡◌, ◌⊎◌, ◌<◌, List, [], ◌∷◌, Result, Ok, Err, refl, subst, inl, inr}
use Rattle.std.specs.Prelude.{IfOk, IfErr}
use Rattle.std.specs.List.{AllByRecursion}
use Rattle.mf_reader.specs.declared.fault.FormFault.{FormFault}
use Rattle.mf_reader.specs.declared.fault.FormFault.TheVariants.{UnknownRequirement, LeftOut, BadForm, Memory}
use Rattle.mf_reader.specs.Laws.{IsReadingOf}
use Rattle.mf_reader.specs.Order.{start_of, AreInOrder, IsLeast, IsAnsweredFault}
use Rattle.mf_reader.specs.Said.{Said, said, FirstIs, Refuses, Gives}

pub form_of : {T V : Type 0} (read : T → Said V) (Form : V → T → Type 0) → IsReadingOf read Form → (t : T) (result : Result V FormFault) → Gives result (read t) → IfOk result (λ v. Form v t)
form_of read Form r t (Ok v) h = subst (λ x. Form x t) h.1 (r.sound t h.0)
form_of read Form r t (Err fault) h = tt

pub only_of : {T V : Type 0} (read : T → Said V) (Form : V → T → Type 0) → IsReadingOf read Form → (t : T) (result : Result V FormFault) → Gives result (read t) → (v : V) → Form v t → Gives result (said v)
only_of read Form r t result h v is = subst (Gives result) (r.complete t v is) h

behind_first : (first : FormFault) (faults : List FormFault) → AllByRecursion (λ later. start_of first < start_of later) faults → AllByRecursion (λ other. (other ≡ first) ⊎ (start_of first < start_of other)) faults
behind_first first [] h = tt
behind_first first (f ∷ fs) h = (inr h.0, behind_first first fs h.1)

least_of : (fault : FormFault) (faults : List FormFault) → AreInOrder faults → FirstIs fault faults → IsLeast fault faults
least_of fault [] order h = absurd h
least_of fault (f ∷ fs) order h = subst (λ (x : FormFault). IsLeast x (f ∷ fs)) h (inl refl, behind_first f fs order.0)

answered : (fault : FormFault) (faults : List FormFault) → AreInOrder faults → Refuses fault faults → IsAnsweredFault fault faults
answered Memory faults order h = tt
answered (UnknownRequirement span) faults order h = least_of (UnknownRequirement span) faults order h
answered (LeftOut span) faults order h = least_of (LeftOut span) faults order h
answered (BadForm span) faults order h = least_of (BadForm span) faults order h

pub least_fault : {V : Type 0} (x : Said V) (result : Result V FormFault) → AreInOrder x.faults → Gives result x → IfErr result (λ fault. IsAnsweredFault fault x.faults)
least_fault x (Ok v) order h = tt
least_fault x (Err fault) order h = answered fault x.faults order h
