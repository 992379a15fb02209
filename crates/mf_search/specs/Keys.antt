-- Keys of open states as plain fields, and a list that holds the keys of the open states.
use Rattle.std.specs.Prelude.{◌≡◌, ℕ, ◌<◌, ◌≤◌, ◌⊎◌, Bool, true, false, not, List, Contains, length}
use Rattle.mf_search.specs.declared.maker.Maker.{Maker}
use Rattle.mf_search.specs.declared.maker.Maker.TheVariants.{Start, Step}
use Rattle.mf_search.specs.Space.{Space}
use Rattle.mf_search.specs.World.{Opened, at}

-- The fields of a key: the state's value, whether the state is plain, and its number.
pub record KeyFields : Type 0 where
  pub value : ℕ
  pub plain : Bool
  pub state : ℕ

-- No helpful instance made the state.
abbrev pub is_plain : Maker → Bool
is_plain Start = true
is_plain (Step parent instance helpful) = not helpful

-- The key of the opened state of number i.
abbrev pub key_of : {S : Type 0} → Opened S → ℕ → KeyFields
key_of o i = record { value = o.value; plain = is_plain o.maker; state = i }

-- The first key is at most the second: by value, then a marked state before a plain one, then by number.
abbrev pub FieldsAtMost : KeyFields → KeyFields → Type 0
FieldsAtMost a b = (a.value < b.value) ⊎ (a.value ≡ b.value) × (a.plain ≡ false) × (b.plain ≡ true) ⊎ (a.value ≡ b.value) × (a.plain ≡ b.plain) × (a.state ≤ b.state)

-- The state of number i was opened and not taken.
abbrev pub OpenIn : {S : Type 0} → List (Opened S) → List ℕ → ℕ → Type 0
OpenIn os taken i = (i < length os) × (Contains taken i → ⊥)

-- The keys with these fields are those of the open states: each is the key of one, and each of them has one.
pub record HoldsOpen {S K : Type 0} (sp : Space S) (os : List (Opened S)) (taken : List ℕ) (fields : K → KeyFields) (keys : List K) : Type 0 where
  pub only : (key : K) → Contains keys key → OpenIn os taken (fields key).state × (fields key ≡ key_of (at sp os (fields key).state) (fields key).state)
  pub every : (i : ℕ) → OpenIn os taken i → (key : K) × Contains keys key × (fields key ≡ key_of (at sp os i) i)
