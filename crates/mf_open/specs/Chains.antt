-- Nodes that are linked into chains.
use Rattle.std.specs.Prelude.{◌≡◌, ℕ, zero, suc, ◌+◌, ◌-◌, ◌<◌, nat_lt, ◌==◌, ◌≢◌, ◌⊎◌, List, [], ◌∷◌, length, slice_index_or, vec_capacity, if◌then◌else◌}
use Rattle.mf_open.specs.declared.nodes.Node.{Node}
use Rattle.mf_open.specs.declared.nodes.Nodes.{Nodes}

-- The node at a place.
abbrev pub node_at : List Node → ℕ → Node
node_at nodes p = slice_index_or nodes p (record { state = 0; next = 0 })

-- The places of n nodes of a chain, from p on.
abbrev pub run : (ℕ → Node) → ℕ → ℕ → List ℕ
run f zero p = []
run f (suc n) p = p ∷ run f n (f p).next

-- The numbers in those nodes.
abbrev pub states : (ℕ → Node) → ℕ → ℕ → List ℕ
states f zero p = []
states f (suc n) p = (f p).state ∷ states f n (f p).next

-- The place of the node that comes n nodes after the one at p.
abbrev pub later : (ℕ → Node) → ℕ → ℕ → ℕ
later f zero p = p
later f (suc n) p = later f n (f p).next

-- How often a place is in a list: 1 where it is q.
unfoldable pub once : ℕ → ℕ → ℕ
once p q = if p == q then 1 else 0

abbrev pub times : ℕ → List ℕ → ℕ
times p [] = 0
times p (q ∷ qs) = once p q + times p qs

-- 1 past the end of a list of so many nodes.
unfoldable pub past : ℕ → ℕ → ℕ
past len p = if nat_lt p len then 0 else 1

-- How often a place is free: among the free nodes, or past the end of the vector.
abbrev pub free_times : Nodes → ℕ → ℕ
free_times nodes p = times p (run (node_at nodes.list.items) nodes.spare nodes.free) + past (length nodes.list.items) p

-- How many nodes can be put to use without memory.
abbrev pub nodes_room : Nodes → ℕ
nodes_room nodes = nodes.spare + (vec_capacity nodes.list - length nodes.list.items)

-- A free node was put to use at a place.
pub record Puts (old new : Nodes) (node : Node) (at : ℕ) : Type 0 where
  pub here : node_at new.list.items at ≡ node
  pub elsewhere : (p : ℕ) → p ≢ at → node_at new.list.items p ≡ node_at old.list.items p
  pub taken : (p : ℕ) → free_times new p + once p at ≡ free_times old p
  pub counted : old.spare + length new.list.items ≡ new.spare + length old.list.items + 1
  pub room : nodes_room new + 1 ≡ nodes_room old

-- A node that is not free was changed.
pub record Sets (old new : Nodes) (node : Node) (at : ℕ) : Type 0 where
  pub here : node_at new.list.items at ≡ node
  pub elsewhere : (p : ℕ) → p ≢ at → node_at new.list.items p ≡ node_at old.list.items p
  pub kept : (p : ℕ) → free_times new p ≡ free_times old p
  pub counted : (new.spare ≡ old.spare) × (length new.list.items ≡ length old.list.items)
  pub room : nodes_room new ≡ nodes_room old

-- A node was let go.
pub record Frees (old new : Nodes) (at : ℕ) : Type 0 where
  pub elsewhere : (p : ℕ) → p ≢ at → node_at new.list.items p ≡ node_at old.list.items p
  pub given : (p : ℕ) → free_times new p ≡ free_times old p + once p at
  pub counted : (new.spare ≡ old.spare + 1) × (length new.list.items ≡ length old.list.items)
  pub room : nodes_room new ≡ nodes_room old + 1

-- In a chain of n nodes after the one at p, the node at a place is the last whose number is below s.
abbrev pub IsSpot : (ℕ → Node) → ℕ → ℕ → ℕ → ℕ → Type 0
IsSpot f zero p s at = ((f p).state < s) × (at ≡ p)
IsSpot f (suc n) p s at = ((f p).state < s) × ((at ≡ p) × (s < (f (f p).next).state) ⊎ IsSpot f n (f p).next s at)
