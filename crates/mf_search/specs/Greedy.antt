-- Greedy best-first search by one thread, with open ties: Heusner, Keller and Helmert, "Understanding the Search
-- Behaviour of Greedy Best-First Search", SoCS 2017. A run is a list of states; it knows no numbers, queues or workers.
use Rattle.std.specs.Prelude.{◌≡◌, ◌≢◌, ℕ, ◌<◌, ◌≤◌, ◌⊎◌, ◌++◌, List, [], ◌∷◌, Some, Contains, length, get_or, take}
use Rattle.mf_search.specs.Space.{Space, IsListed, Leads}

-- After the list the state y is open, and its value is v.
pub record OpenAfter {S : Type 0} (sp : Space S) (before : List S) (y : S) (v : ℕ) : Type 0 where
  pub reached : (y ≡ sp.start) ⊎ ((x : S) × Contains before x × Leads sp x y)
  pub valued : sp.value y ≡ Some v
  pub fresh : Contains before y → ⊥

-- The state x, of value u, may follow the list: it is open there, and no state that is open there has less value.
pub record Follows {S : Type 0} (sp : Space S) (before : List S) (x : S) (u : ℕ) : Type 0 where
  pub is_open : OpenAfter sp before x u
  pub least : (y : S) (v : ℕ) → OpenAfter sp before y v → u ≤ v

-- The search goes on after x: it is no goal, and it has a successor list.
pub record Expanded {S : Type 0} (sp : Space S) (x : S) : Type 0 where
  pub no_goal : sp.value x ≢ Some 0
  pub listed : IsListed (sp.grow x)

abbrev pub AllExpanded : {S : Type 0} → Space S → List S → Type 0
AllExpanded {S} sp before = (x : S) → Contains before x → Expanded sp x

-- A greedy run: each member may follow those before it, which were all expanded.
abbrev pub Greedy : {S : Type 0} → Space S → List S → Type 0
Greedy sp run = (k : ℕ) → k < length run → ((u : ℕ) × Follows sp (take k run) (get_or run k sp.start) u) × AllExpanded sp (take k run)

-- A greedy run whose last member is x.
pub record IsGreedyRunTo {S : Type 0} (sp : Space S) (run : List S) (x : S) : Type 0 where
  pub greedy : Greedy sp run
  pub ends_with : (before : List S) × (run ≡ before ++ x ∷ [])
