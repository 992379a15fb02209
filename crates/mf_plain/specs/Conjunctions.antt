-- Conditions that are conjunctions of atoms, and the atoms that they need.
use Rattle.std.specs.Prelude.{ℕ, Bool, true, false, List, [], ◌∷◌}
use Rattle.std.specs.List.{flat_map, list_all, list_any}
use Rattle.mf_model.specs.declared.task.Atom.{Atom}
use Rattle.mf_model.specs.declared.task.Cond.{Cond, fold-Cond}
use Rattle.mf_model.specs.declared.task.Cond.TheOpen.{Cond-F}
use Rattle.mf_model.specs.Plain.{all_true}
use Rattle.mf_model.specs.States.{same_atom}
use Rattle.mf_model.specs.Views.{objects_of}

-- an atom or a conjunction of conjunctions
abbrev pub conjunction_step : Cond-F Bool → Bool
conjunction_step (Cond-F.Atom predicate terms) = true
conjunction_step (Cond-F.And parts) = all_true parts
conjunction_step _ = false

abbrev pub is_conjunction : Cond → Bool
is_conjunction = fold-Cond Bool conjunction_step

abbrev pub needs_step : Cond-F (List ℕ → List Atom) → List ℕ → List Atom
needs_step (Cond-F.Atom predicate terms) b = record { predicate = predicate; objects = objects_of b terms } ∷ []
needs_step (Cond-F.And parts) b = flat_map (λ part. part b) parts
needs_step _ b = []

-- the atoms of a conjunction under a binding, in the order of the text
abbrev pub needs_of : Cond → List ℕ → List Atom
needs_of = fold-Cond (List ℕ → List Atom) needs_step

abbrev pub is_true : List Atom → Atom → Bool
is_true atoms a = list_any (same_atom a) atoms

abbrev pub all_needs : List Atom → List Atom → Bool
all_needs atoms needs = list_all (is_true atoms) needs
