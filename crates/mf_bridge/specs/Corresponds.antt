-- When the changes of an instance and those of its packed action are the same ones, in the same order.
use Rattle.std.specs.Prelude.{◌≡◌, ◌<◌, ℕ, true, false, List, [], ◌∷◌, length, get_or, position, Some, None}
use Rattle.mf_store.specs.Rows.{RowLists, bit_in}
use Rattle.mf_model.specs.declared.task.TypedTask.{TypedTask}
use Rattle.mf_model.specs.Application.{Change, Added, Deleted, Changed}
use Rattle.mf_model.specs.Functions.{is_cost}
use Rattle.mf_model.specs.States.{is_atom}
use Rattle.mf_task.specs.declared.ground.GroundChange.{GroundChange}
use Rattle.mf_task.specs.declared.ground.GroundChange.TheVariants as change
use Rattle.mf_task.specs.declared.task.Task.{Task}
use Rattle.mf_task.specs.GroundMeaning.{right_side}
use Rattle.mf_task.specs.Grounding.{is_same_cell}
use Rattle.mf_task.specs.Rows.{Sight}

-- the atom, and the term, and the value of the right side are the same; of a cost function only the right side is kept
abbrev pub IsSameChange : TypedTask → Task → Sight → GroundChange → Change → Type 0
IsSameChange task packed sight (change.Add atom) (Added predicate objects) = position (is_atom predicate objects) packed.atoms ≡ Some atom
IsSameChange task packed sight (change.Add atom) (Deleted predicate objects) = ⊥
IsSameChange task packed sight (change.Add atom) (Changed op function objects value) = ⊥
IsSameChange task packed sight (change.Delete atom) (Added predicate objects) = ⊥
IsSameChange task packed sight (change.Delete atom) (Deleted predicate objects) = position (is_atom predicate objects) packed.atoms ≡ Some atom
IsSameChange task packed sight (change.Delete atom) (Changed op function objects value) = ⊥
IsSameChange task packed sight (change.Number packed_op term right) (Added predicate objects) = ⊥
IsSameChange task packed sight (change.Number packed_op term right) (Deleted predicate objects) = ⊥
IsSameChange task packed sight (change.Number packed_op term right) (Changed op function objects value) =
    (packed_op ≡ op) × (is_cost task function ≡ false) × (position (is_same_cell function objects) packed.terms ≡ Some term) × (right_side packed sight right ≡ value)
IsSameChange task packed sight (change.Cost right) (Added predicate objects) = ⊥
IsSameChange task packed sight (change.Cost right) (Deleted predicate objects) = ⊥
IsSameChange task packed sight (change.Cost right) (Changed op function objects value) = (is_cost task function ≡ true) × (right_side packed sight right ≡ value)
IsSameChange task packed sight change.Nothing other = ⊥

abbrev pub HasFirst : (Change → Type 0) → (List Change → Type 0) → List Change → Type 0
HasFirst first rest [] = ⊥
HasFirst first rest (other ∷ others) = first other × rest others

-- `Nothing` stands for no change
abbrev pub BeginsWith : TypedTask → Task → Sight → GroundChange → (List Change → Type 0) → List Change → Type 0
BeginsWith task packed sight (change.Add atom) rest = HasFirst (IsSameChange task packed sight (change.Add atom)) rest
BeginsWith task packed sight (change.Delete atom) rest = HasFirst (IsSameChange task packed sight (change.Delete atom)) rest
BeginsWith task packed sight (change.Number op term right) rest = HasFirst (IsSameChange task packed sight (change.Number op term right)) rest
BeginsWith task packed sight (change.Cost right) rest = HasFirst (IsSameChange task packed sight (change.Cost right)) rest
BeginsWith task packed sight change.Nothing rest = rest

-- the changes by number, one after another, and those of the text
abbrev pub AreSameChanges : TypedTask → Task → Sight → List GroundChange → List Change → Type 0
AreSameChanges task packed sight [] others = others ≡ []
AreSameChanges task packed sight (first ∷ changes) others = BeginsWith task packed sight first (AreSameChanges task packed sight changes) others

-- the row has the bit of each atom and the value of each term
pub record HasSight (packed : Task) (sight : Sight) (row : RowLists) : Type 0 where
  pub bits : (atom : ℕ) → atom < length packed.atoms → bit_in row.bits atom ≡ sight.bit atom
  pub values : (term : ℕ) → term < length packed.terms → get_or row.values term None ≡ sight.value term
