-- The reading of a place and the form at that place say the same.
use Rattle.std.specs.Prelude.{◌≡◌, List, [], map}
use Rattle.mf_model.specs.declared.tree.Tree.{Tree}
use Rattle.mf_reader.specs.Places.{Seen}
use Rattle.mf_reader.specs.Said.{Said, said}
use Rattle.mf_reader.specs.Seen.{seen}

-- a value that is read without a fault is of the form, and a value of the form is read, without a fault
pub record IsReadingOf {T V : Type 0} (read : T → Said V) (Form : V → T → Type 0) : Type 0 where
  pub sound : (t : T) → (read t).faults ≡ [] → Form (read t).value t
  pub complete : (t : T) (v : V) → Form v t → read t ≡ said v

-- what is said of trees at a place
abbrev pub ReadsAt : {V : Type 0} → (Seen → Said V) → (V → Tree → Type 0) → Type 0
ReadsAt read Form = IsReadingOf (λ (t : Tree). read (seen t)) Form

abbrev pub ReadsLists : {V : Type 0} → (List Seen → Said V) → (V → List Tree → Type 0) → Type 0
ReadsLists read Form = IsReadingOf (λ (ts : List Tree). read (map seen ts)) Form
