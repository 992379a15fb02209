-- The order of the keys of opened states.
use Rattle.std.proofs.Common.{◌≡◌, ℕ, ◌≤◌, ◌⊎◌, arith}
use Rattle.mf_search.specs.World.{Opened, KeyAtMost}

-- The key of the first is at most that of the second, so its value is.
pub key_value : {S : Type 0} (a : Opened S) (i : ℕ) (b : Opened S) (j : ℕ) → KeyAtMost a i b j → a.value ≤ b.value
key_value a i b j h = grind arith

pub key_refl : {S : Type 0} (a : Opened S) (i : ℕ) → KeyAtMost a i a i
key_refl a i = grind arith

pub key_antisym : {S : Type 0} (a : Opened S) (i : ℕ) (b : Opened S) (j : ℕ) → KeyAtMost a i b j → KeyAtMost b j a i → i ≡ j
key_antisym a i b j h k = grind arith

pub key_trans : {S : Type 0} (a : Opened S) (i : ℕ) (b : Opened S) (j : ℕ) (c : Opened S) (k : ℕ) → KeyAtMost a i b j → KeyAtMost b j c k → KeyAtMost a i c k
key_trans a i b j c k g h = grind arith

pub key_total : {S : Type 0} (a : Opened S) (i : ℕ) (b : Opened S) (j : ℕ) → KeyAtMost a i b j ⊎ KeyAtMost b j a i
key_total a i b j = grind arith
