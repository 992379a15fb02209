-- Cases and induction over changes that correspond.
use Rattle.std.proofs.Common.{◌≡◌, ℕ, List, [], ◌∷◌, Option, Some, sym, subst}
use Rattle.std.specs.List.{position}
use Rattle.mf_fraction.specs.Exact.{Number}
use Rattle.mf_model.specs.declared.task.Op.{Op}
use Rattle.mf_model.specs.declared.task.TypedTask.{TypedTask}
use Rattle.mf_model.specs.Application.{Change, Added, Deleted, Changed}
use Rattle.mf_model.specs.States.{is_atom}
use Rattle.mf_task.specs.declared.ground.GroundChange.{GroundChange}
use Rattle.mf_task.specs.declared.ground.GroundChange.TheVariants as change
use Rattle.mf_task.specs.declared.task.Task.{Task}
use Rattle.mf_task.specs.Rows.{Sight}
use Rattle.mf_bridge.specs.Corresponds.{AreSameChanges, IsSameChange}

module _ (task : TypedTask) (packed : Task) (sight : Sight) where
  -- what holds of each kind of change
  pub record HoldsOfEach (P : GroundChange → Change → Type 0) : Type 0 where
    pub add : (n q : ℕ) (qs : List ℕ) → position (is_atom q qs) packed.atoms ≡ Some n → P (change.Add n) (Added q qs)
    pub delete : (n q : ℕ) (qs : List ℕ) → position (is_atom q qs) packed.atoms ≡ Some n → P (change.Delete n) (Deleted q qs)
    pub number : (o : Op) (term : ℕ) (right : Option ℕ) (op : Op) (g : ℕ) (qs : List ℕ) (value : Option Number) → IsSameChange task packed sight (change.Number o term right) (Changed op g qs value) → P (change.Number o term right) (Changed op g qs value)
    pub cost : (right : Option ℕ) (op : Op) (g : ℕ) (qs : List ℕ) (value : Option Number) → IsSameChange task packed sight (change.Cost right) (Changed op g qs value) → P (change.Cost right) (Changed op g qs value)

  pub holds_of_same : (P : GroundChange → Change → Type 0) → HoldsOfEach P → (g : GroundChange) (c : Change) → IsSameChange task packed sight g c → P g c
  holds_of_same P each (change.Add n) (Added q qs) same = each.add n q qs same
  holds_of_same P each (change.Add n) (Deleted q qs) same = elim same [ ]
  holds_of_same P each (change.Add n) (Changed op g qs value) same = elim same [ ]
  holds_of_same P each (change.Delete n) (Added q qs) same = elim same [ ]
  holds_of_same P each (change.Delete n) (Deleted q qs) same = each.delete n q qs same
  holds_of_same P each (change.Delete n) (Changed op g qs value) same = elim same [ ]
  holds_of_same P each (change.Number o term right) (Added q qs) same = elim same [ ]
  holds_of_same P each (change.Number o term right) (Deleted q qs) same = elim same [ ]
  holds_of_same P each (change.Number o term right) (Changed op g qs value) same = each.number o term right op g qs value same
  holds_of_same P each (change.Cost right) (Added q qs) same = elim same [ ]
  holds_of_same P each (change.Cost right) (Deleted q qs) same = elim same [ ]
  holds_of_same P each (change.Cost right) (Changed op g qs value) same = each.cost right op g qs value same
  holds_of_same P each change.Nothing c same = elim same [ ]

  -- one after another
  pub record HoldsOnwards (P : List GroundChange → List Change → Type 0) : Type 0 where
    pub none : P [] []
    pub nothing : (gs : List GroundChange) (cs : List Change) → P gs cs → P (change.Nothing ∷ gs) cs
    pub more : (g : GroundChange) (gs : List GroundChange) (c : Change) (cs : List Change) → IsSameChange task packed sight g c → P gs cs → P (g ∷ gs) (c ∷ cs)

  pub holds_of_changes : (P : List GroundChange → List Change → Type 0) → HoldsOnwards P → (gs : List GroundChange) (cs : List Change) → AreSameChanges task packed sight gs cs → P gs cs
  holds_of_changes P on [] cs same = subst (λ (ds : List Change). P [] ds) (sym same) on.none
  holds_of_changes P on (change.Nothing ∷ gs) cs same = on.nothing gs cs (holds_of_changes P on gs cs same)
  holds_of_changes P on (change.Add n ∷ gs) [] same = elim same [ ]
  holds_of_changes P on (change.Add n ∷ gs) (c ∷ cs) same = on.more (change.Add n) gs c cs same.0 (holds_of_changes P on gs cs same.1)
  holds_of_changes P on (change.Delete n ∷ gs) [] same = elim same [ ]
  holds_of_changes P on (change.Delete n ∷ gs) (c ∷ cs) same = on.more (change.Delete n) gs c cs same.0 (holds_of_changes P on gs cs same.1)
  holds_of_changes P on (change.Number o term right ∷ gs) [] same = elim same [ ]
  holds_of_changes P on (change.Number o term right ∷ gs) (c ∷ cs) same = on.more (change.Number o term right) gs c cs same.0 (holds_of_changes P on gs cs same.1)
  holds_of_changes P on (change.Cost right ∷ gs) [] same = elim same [ ]
  holds_of_changes P on (change.Cost right ∷ gs) (c ∷ cs) same = on.more (change.Cost right) gs c cs same.0 (holds_of_changes P on gs cs same.1)
