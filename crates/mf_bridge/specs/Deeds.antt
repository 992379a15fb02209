-- What a change does, told in the numbers of atoms and terms: a typed change and a ground change correspond where they do
-- the same.
use Rattle.std.specs.Prelude.{ℕ, List, [], ◌∷◌, Option, if◌then◌else◌}
use Rattle.mf_fraction.specs.Exact.{Number}
use Rattle.mf_model.specs.declared.task.Op.{Op}
use Rattle.mf_model.specs.Application.{Change, Added, Deleted, Changed}
use Rattle.mf_model.specs.Functions.{is_cost}
use Rattle.mf_task.specs.declared.ground.GroundChange.{GroundChange}
use Rattle.mf_task.specs.declared.ground.GroundChange.TheVariants as change
use Rattle.mf_task.specs.declared.task.Task.{Task}
use Rattle.mf_task.specs.GroundMeaning.{right_side}
use Rattle.mf_task.specs.Grounding.{Numbering, atom_number, term_number}
use Rattle.mf_task.specs.Rows.{Sight}

-- an atom is added or deleted, a term is changed by a value, or some cost is
pub data Deed : Type 0 where
  AddsAtom : ℕ → Deed
  DeletesAtom : ℕ → Deed
  ChangesTerm : Op → ℕ → Option Number → Deed
  ChangesCost : Option Number → Deed

abbrev pub deed_of : Numbering → Change → Deed
deed_of numbering (Added predicate objects) = AddsAtom (atom_number numbering.atoms predicate objects)
deed_of numbering (Deleted predicate objects) = DeletesAtom (atom_number numbering.atoms predicate objects)
deed_of numbering (Changed op function objects value) =
    if is_cost numbering.task function then ChangesCost value else ChangesTerm op (term_number numbering.terms function objects) value

-- `Nothing` does nothing
abbrev pub ground_deeds : Task → Sight → GroundChange → List Deed
ground_deeds task sight (change.Add atom) = AddsAtom atom ∷ []
ground_deeds task sight (change.Delete atom) = DeletesAtom atom ∷ []
ground_deeds task sight (change.Number op term value) = ChangesTerm op term (right_side task sight value) ∷ []
ground_deeds task sight (change.Cost value) = ChangesCost (right_side task sight value) ∷ []
ground_deeds task sight change.Nothing = []
