-- A space of states: where the search begins, what each state is worth, and where each state leads.
use Rattle.std.specs.Prelude.{◌≡◌, ◌↔◌, ℕ, Bool, true, List, [], Option, Contains}

-- One entry of a successor list: the instance that leads on, the state that it leads to, and whether it is helpful.
pub record Child (S : Type 0) : Type 0 where
  pub instance : ℕ
  pub state : S
  pub helpful : Bool

-- What expanding a state gives: its successor list, or the instance that leads out of the width.
pub data Grown (S : Type 0) : Type 0 where
  Listed : List (Child S) → Grown S
  LeadsOut : ℕ → Grown S

-- A space. A state's value is `None` where it is infinite; a goal is a state of value 0.
pub record Space (S : Type 0) : Type 0 where
  pub start : S
  pub value : S → Option ℕ
  pub grow : S → Grown S
  pub same : S → S → Bool
  pub same_is : (x y : S) → (same x y ≡ true) ↔ (x ≡ y)

abbrev pub children_of : {S : Type 0} → Grown S → List (Child S)
children_of (Listed cs) = cs
children_of (LeadsOut n) = []

-- The expansion has a successor list.
abbrev pub IsListed : {S : Type 0} → Grown S → Type 0
IsListed (Listed cs) = Unit {0}
IsListed (LeadsOut n) = ⊥

-- The state x has y in its successor list.
abbrev pub Leads : {S : Type 0} → Space S → S → S → Type 0
Leads {S} sp x y = (c : Child S) × Contains (children_of (sp.grow x)) c × (c.state ≡ y)
