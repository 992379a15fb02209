-- The places of each hash in a list of hashes, chained in order.
use Rattle.std.specs.Prelude.{◌≡◌, ◌≢◌, ℕ, zero, suc, ◌+◌, ◌-◌, ◌<◌, ◌≤◌, List, length, get_or, Option, Some, None}

-- the hashes in order, and the number of further hashes that there is room for
pub record Hashes : Type 0 where
  pub hashes : List ℕ
  pub room : ℕ

-- the first place of the hash from place n on, if there is one
abbrev pub IsNext : ℕ → ℕ → List ℕ → Option ℕ → Type 0
IsNext hash n hashes None = (j : ℕ) → n ≤ j → j < length hashes → get_or hashes j 0 ≢ hash
IsNext hash n hashes (Some i) =
    (n ≤ i) × (i < length hashes) × (get_or hashes i 0 ≡ hash) × ((j : ℕ) → n ≤ j → j < i → get_or hashes j 0 ≢ hash)

-- where a walk along a chain goes on after this place
abbrev pub start : Option ℕ → ℕ
start None = 0
start (Some i) = i + 1

abbrev pub IsPlace : ℕ → List ℕ → Option ℕ → Type 0
IsPlace hash hashes None = Unit {0}
IsPlace hash hashes (Some i) = (i < length hashes) × (get_or hashes i 0 ≡ hash)

-- a walk along the chain of the hash has come to a place, and the next one is known
pub record IsWalk (hash : ℕ) (hashes : List ℕ) (last next : Option ℕ) : Type 0 where
  pub place : IsPlace hash hashes last
  pub ahead : IsNext hash (start last) hashes next

-- how much of the list is left to walk
abbrev pub left : ℕ → Option ℕ → ℕ
left n None = 0
left n (Some i) = n - i

-- 0 stands for no place: it is the next place of none
abbrev pub link : ℕ → Option ℕ
link zero = None
link (suc i) = Some (suc i)

pub record IsChained (first : ℕ → Option ℕ) (links hashes : List ℕ) : Type 0 where
  pub counted : length links ≡ length hashes
  pub firsts : (hash : ℕ) → IsNext hash 0 hashes (first hash)
  pub nexts : (i : ℕ) → i < length hashes → IsNext (get_or hashes i 0) (i + 1) hashes (link (get_or links i 0))
