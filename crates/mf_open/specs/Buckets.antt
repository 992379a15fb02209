-- Buckets over nodes that are linked into chains.
use Rattle.std.specs.Prelude.{◌≡◌, ℕ, suc, ◌+◌, ◌*◌, ◌<◌, ◌≤◌, nat_lt, Bool, List, [], ◌∷◌, ◌++◌, map, length, if◌then◌else◌}
use Rattle.std.specs.List.{All}
use Rattle.mf_open.specs.declared.key.Key.{Key}
use Rattle.mf_open.specs.declared.nodes.Node.{Node}
use Rattle.mf_open.specs.declared.nodes.Nodes.{Nodes}
use Rattle.mf_open.specs.declared.bucket.Bucket.{Bucket}
use Rattle.mf_open.specs.Keys.{rank}
use Rattle.mf_open.specs.Chains.{node_at, run, states, later, times, free_times, nodes_room}

-- Buckets and keys are ordered by this number first: the value, then the mark.
unfoldable pub group : ℕ → Bool → ℕ
group value plain = 2 * value + rank plain

-- The key of a state in a bucket.
abbrev pub key_in : Bucket → ℕ → Key
key_in b state = record { value = b.value; plain = b.plain; state = state }

-- The numbers in a bucket, in its order.
abbrev pub states_in : (ℕ → Node) → Bucket → List ℕ
states_in f b = states f (suc b.more) b.first

-- The keys of buckets, the last bucket's first.
abbrev pub keys_of : (ℕ → Node) → List Bucket → List Key
keys_of f [] = []
keys_of f (b ∷ bs) = keys_of f bs ++ map (key_in b) (states_in f b)

-- How often a place is in the chain of a bucket, and in those of several.
abbrev pub in_chain : (ℕ → Node) → Bucket → ℕ → ℕ
in_chain f b p = times p (run f (suc b.more) b.first)

abbrev pub in_chains : (ℕ → Node) → List Bucket → ℕ → ℕ
in_chains f [] p = 0
in_chains f (b ∷ bs) p = in_chain f b p + in_chains f bs p

-- How many nodes buckets have.
abbrev pub count_of : List Bucket → ℕ
count_of [] = 0
count_of (b ∷ bs) = suc b.more + count_of bs

-- Numbers that rise from each to the next.
abbrev pub Above : ℕ → List ℕ → Type 0
Above x [] = Unit {0}
Above x (y ∷ ys) = x < y

abbrev pub Rises : List ℕ → Type 0
Rises [] = Unit {0}
Rises (x ∷ xs) = Above x xs × Rises xs

-- The number is none of these.
abbrev pub Lacks : ℕ → List ℕ → Type 0
Lacks s [] = Unit {0}
Lacks s (x ∷ xs) = (x ≡ s → ⊥) × Lacks s xs

-- Rising numbers with one more in its place.
abbrev pub with_number : ℕ → List ℕ → List ℕ
with_number s [] = s ∷ []
with_number s (x ∷ xs) = if nat_lt s x then s ∷ x ∷ xs else x ∷ with_number s xs

-- A bucket knows its last node, and its numbers rise.
pub record IsChain (f : ℕ → Node) (b : Bucket) : Type 0 where
  pub last : b.last ≡ later f b.more b.first
  pub rises : Rises (states_in f b)

-- Buckets fall: each is above all that come after it.
abbrev pub Falls : List Bucket → Type 0
Falls [] = Unit {0}
Falls (b ∷ bs) = All (λ c. group c.value c.plain < group b.value b.plain) bs × Falls bs

-- No node is in two chains, each node is in one or free, and the buckets are in order.
pub record Sound (nodes : Nodes) (bs : List Bucket) : Type 0 where
  pub apart : (p : ℕ) → in_chains (node_at nodes.list.items) bs p + free_times nodes p ≤ 1
  pub counted : nodes.spare + count_of bs ≡ length nodes.list.items
  pub chains : All (IsChain (node_at nodes.list.items)) bs
  pub falls : Falls bs

-- Nodes were linked anew among the free ones and those of one chain alone. `before` and `after` say how often a place is in that chain.
pub record Relinks (old new : Nodes) (before after : ℕ → ℕ) : Type 0 where
  pub moved : (p : ℕ) → after p + free_times new p ≡ before p + free_times old p
  pub elsewhere : (p : ℕ) → before p + free_times old p ≡ 0 → node_at new.list.items p ≡ node_at old.list.items p

-- A bucket took in one more state.
pub record TakesIn (old new : Nodes) (before : ℕ → ℕ) (numbers : List ℕ) (bucket : Bucket) : Type 0 where
  pub links : Relinks old new before (in_chain (node_at new.list.items) bucket)
  pub chain : IsChain (node_at new.list.items) bucket
  pub numbers_are : states_in (node_at new.list.items) bucket ≡ numbers
  pub counted : old.spare + length new.list.items ≡ new.spare + length old.list.items + 1
  pub room : nodes_room new + 1 ≡ nodes_room old
