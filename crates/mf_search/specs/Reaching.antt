-- What is reached from the start: through states from which the search goes on, or by any other steps.
use Rattle.std.specs.Prelude.{◌≡◌, ℕ, List, [], ◌∷◌, Some, None, Contains}
use Rattle.mf_search.specs.Space.{Child, Space, children_of, Leads}
use Rattle.mf_search.specs.Greedy.{Expanded}

-- The state's value is finite.
abbrev pub HasValue : {S : Type 0} → Space S → S → Type 0
HasValue sp x = (v : ℕ) × (sp.value x ≡ Some v)

-- The search goes on from x: its value is finite, it is no goal, and it has a successor list.
pub record GoesOn {S : Type 0} (sp : Space S) (x : S) : Type 0 where
  pub finite : HasValue sp x
  pub expanded : Expanded sp x

-- The instances lead, one after the other, from x to y, and the search goes on from each state that they leave.
abbrev pub OnwardWalk : {S : Type 0} → Space S → S → List ℕ → S → Type 0
OnwardWalk sp x [] y = x ≡ y
OnwardWalk {S} sp x (n ∷ instances) y = GoesOn sp x × ((c : Child S) × Contains (children_of (sp.grow x)) c × (c.instance ≡ n) × OnwardWalk sp c.state instances y)

-- The state is the start, or reached from it through states from which the search goes on.
abbrev pub IsReached : {S : Type 0} → Space S → S → Type 0
IsReached sp y = (instances : List ℕ) × OnwardWalk sp sp.start instances y

-- What holds of a state from which the search goes on holds of each state of finite value in its successor list.
abbrev pub KeptByOpening : {S : Type 0} → Space S → (S → Type 0) → Type 0
KeptByOpening {S} sp Holds = (x y : S) → Holds x → GoesOn sp x → Leads sp x y → HasValue sp y → Holds y

-- What holds of a state from which the search goes on holds of each state in its successor list.
abbrev pub KeptByLists : {S : Type 0} → Space S → (S → Type 0) → Type 0
KeptByLists {S} sp Holds = (x y : S) → Holds x → GoesOn sp x → Leads sp x y → Holds y

-- The instances lead, one after the other, by such steps from x to y.
abbrev pub Along : {S : Type 0} → (S → ℕ → S → Type 0) → S → List ℕ → S → Type 0
Along Steps x [] y = x ≡ y
Along {S} Steps x (n ∷ instances) y = (z : S) × Steps x n z × Along Steps z instances y

-- Some instances lead by such steps from x to a goal.
abbrev pub LeadsToGoalBy : {S : Type 0} → (S → ℕ → S → Type 0) → (S → Type 0) → S → Type 0
LeadsToGoalBy {S} Steps Goal x = (instances : List ℕ) × ((y : S) × Along Steps x instances y × Goal y)

-- The state is reached by such steps, and through states from which the search goes on.
pub record IsReachedBy {S : Type 0} (sp : Space S) (Steps : S → ℕ → S → Type 0) (x : S) : Type 0 where
  pub reached : IsReached sp x
  pub instances : List ℕ
  pub along : Along Steps sp.start instances x

-- The space covers these steps to these goals, as far as the search reaches: where it goes on from a state, the steps
-- lead into its successor list; a goal of finite value has the value 0; and from a state of infinite value the steps
-- lead to no goal. From a state that leads out of the width they may lead anywhere.
pub record Covers {S : Type 0} (sp : Space S) (Steps : S → ℕ → S → Type 0) (Goal : S → Type 0) : Type 0 where
  pub listed : (x : S) (n : ℕ) (y : S) → IsReachedBy sp Steps x → GoesOn sp x → Steps x n y → Leads sp x y
  pub goals : (x : S) (v : ℕ) → IsReachedBy sp Steps x → sp.value x ≡ Some v → Goal x → v ≡ 0
  pub dead : (x : S) → IsReachedBy sp Steps x → sp.value x ≡ None → LeadsToGoalBy Steps Goal x → ⊥
