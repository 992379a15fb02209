-- What is said of parts one behind the other: no fault stands where none stands in a part.
use Rattle.std.proofs.Common.{◌≡◌, List, [], ◌∷◌, ◌++◌, map, refl, ap, ◌∙◌}
use Rattle.std.specs.List.{AllByRecursion}
use Rattle.mf_model.specs.declared.tree.Tree.{Tree}
use Rattle.mf_model.specs.Forms.{Each}
use Rattle.mf_reader.specs.declared.fault.FormFault.{FormFault}
use Rattle.mf_reader.specs.Said.{Said, said, faulty, both, mapped, each}
use Rattle.mf_reader.specs.Places.{Seen}
use Rattle.mf_reader.specs.Seen.{seen}

pub none_of_both : {A : Type 0} (xs ys : List A) → xs ++ ys ≡ [] → (xs ≡ []) × (ys ≡ [])
none_of_both [] ys e = (refl, e)
none_of_both (x ∷ xs) ys e = let h : ⊥ = cc in absurd h

pub some_fault : {A B : Type 0} (x : A) (xs : List A) → x ∷ xs ≡ [] → B
some_fault x xs e = let h : ⊥ = cc in absurd h

faults_of : {A : Type 0} → Said A → List FormFault
faults_of x = x.faults

pub faulty_is : {A B : Type 0} (fault : FormFault) (w v : A) → faulty fault w ≡ said v → B
unfolding faults_of
faulty_is fault w v e = some_fault fault [] (ap faults_of e)

pub both_said : {A B C : Type 0} (f : A → B → C) (x : Said A) (y : Said B) (v : A) (w : B) → x ≡ said v → y ≡ said w → both f x y ≡ said (f v w)
both_said f x y v w ex ey = ap (λ a. both f a y) ex ∙ ap (λ b. both f (said v) b) ey

pub mapped_said : {A B : Type 0} (f : A → B) (x : Said A) (v : A) → x ≡ said v → mapped f x ≡ said (f v)
mapped_said f x v e = ap (mapped f) e

-- What is said of a tree at a place agrees with a form: where no fault is said, the value is of the form; and
-- where a value is of the form, it is said, and no fault.
pub record Reads {V : Type 0} (read : Seen → Said V) (Form : V → Tree → Type 0) (t : Tree) : Type 0 where
  pub sound : (read (seen t)).faults ≡ [] → Form (read (seen t)).value t
  pub complete : (v : V) → Form v t → read (seen t) ≡ said v

pub each_sound : {V : Type 0} (read : Seen → Said V) (Form : V → Tree → Type 0) (ts : List Tree) → AllByRecursion (Reads read Form) ts → (each read (map seen ts)).faults ≡ [] → Each Form (each read (map seen ts)).value ts
each_sound read Form [] rs e = tt
each_sound read Form (t ∷ ts) rs e =
    let h = none_of_both (read (seen t)).faults (each read (map seen ts)).faults e in
    (rs.0.sound h.0, each_sound read Form ts rs.1 h.1)

pub each_complete : {V : Type 0} (read : Seen → Said V) (Form : V → Tree → Type 0) (ts : List Tree) → AllByRecursion (Reads read Form) ts → (vs : List V) → Each Form vs ts → each read (map seen ts) ≡ said vs
each_complete read Form [] rs [] h = refl
each_complete read Form [] rs (v ∷ vs) h = absurd h
each_complete read Form (t ∷ ts) rs [] h = absurd h
each_complete read Form (t ∷ ts) rs (v ∷ vs) h =
    both_said (λ x xs. x ∷ xs) (read (seen t)) (each read (map seen ts)) v vs (rs.0.complete v h.0) (each_complete read Form ts rs.1 vs h.1)

pub all_reads : {V : Type 0} (read : Seen → Said V) (Form : V → Tree → Type 0) → ((t : Tree) → Reads read Form t) → (ts : List Tree) → AllByRecursion (Reads read Form) ts
all_reads read Form r [] = tt
all_reads read Form r (t ∷ ts) = (r t, all_reads read Form r ts)
