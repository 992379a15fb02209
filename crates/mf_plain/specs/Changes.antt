-- Effects that only add and delete atoms, and the atoms that they add and delete.
use Rattle.std.specs.Prelude.{ℕ, Bool, true, false, List, [], ◌∷◌}
use Rattle.std.specs.List.{flat_map, list_any}
use Rattle.mf_model.specs.declared.task.Atom.{Atom}
use Rattle.mf_model.specs.declared.task.Effect.{Effect, fold-Effect}
use Rattle.mf_model.specs.declared.task.Effect.TheOpen.{Effect-F}
use Rattle.mf_model.specs.Plain.{all_true}
use Rattle.mf_model.specs.States.{same_atom}
use Rattle.mf_model.specs.Views.{objects_of}

-- an atom added or deleted, or a group of such effects
abbrev pub changes_step : Effect-F Bool → Bool
changes_step (Effect-F.Add predicate terms) = true
changes_step (Effect-F.Delete predicate terms) = true
changes_step (Effect-F.Group parts) = all_true parts
changes_step _ = false

abbrev pub only_changes_atoms : Effect → Bool
only_changes_atoms = fold-Effect Bool changes_step

abbrev pub adds_step : Effect-F (List ℕ → List Atom) → List ℕ → List Atom
adds_step (Effect-F.Add predicate terms) b = record { predicate = predicate; objects = objects_of b terms } ∷ []
adds_step (Effect-F.Group parts) b = flat_map (λ part. part b) parts
adds_step _ b = []

abbrev pub adds_of : Effect → List ℕ → List Atom
adds_of = fold-Effect (List ℕ → List Atom) adds_step

abbrev pub deletes_step : Effect-F (List ℕ → List Atom) → List ℕ → List Atom
deletes_step (Effect-F.Delete predicate terms) b = record { predicate = predicate; objects = objects_of b terms } ∷ []
deletes_step (Effect-F.Group parts) b = flat_map (λ part. part b) parts
deletes_step _ b = []

abbrev pub deletes_of : Effect → List ℕ → List Atom
deletes_of = fold-Effect (List ℕ → List Atom) deletes_step

-- the atom is one of the deleted ones
abbrev pub is_deleted : List Atom → Atom → Bool
is_deleted deletes a = list_any (λ d. same_atom d a) deletes
