-- What a put answers, what it leaves in the sink, and what a count of faults says.
use Rattle.std.specs.Prelude.{◌≡◌, ℕ, ◌<◌, ◌≤◌, ◌⊎◌, Option, Result, Ok, Err, List, ◌++◌, length, take}
use Rattle.std.specs.Option.{option_map}
use Rattle.mf_io.specs.Counts.{greatest_count}
use Rattle.mf_io.specs.declared.sink.PutFault.{PutFault}
use Rattle.mf_io.specs.declared.sink.PutFault.TheVariants.{Failed, Memory}

-- these bytes stand behind what was written before, if that is told; whether it is told stays as it was
abbrev pub Appends : List ℕ → Option (List ℕ) → Option (List ℕ) → Type 0
Appends bytes before after = after ≡ option_map (λ written. written ++ bytes) before

-- a front part of these bytes stands behind what was written before
abbrev pub AppendsFront : List ℕ → Option (List ℕ) → Option (List ℕ) → Type 0
AppendsFront bytes before after = (n : ℕ) × (n ≤ length bytes) × Appends (take n bytes) before after

-- the count rose, or it stands at its end
abbrev pub Rose : ℕ → ℕ → Type 0
Rose before after = (before < after) ⊎ ((before ≡ greatest_count) × (after ≡ greatest_count))

-- A put of `piece`, with what is written and the count of faults before and after:
-- at least one byte and no more than all are taken, and stand behind what was written, and the count of faults stays;
-- or nothing is, and the count of faults rose; or memory was wanted, and nothing changed.
abbrev pub Puts : List ℕ → Option (List ℕ) → Option (List ℕ) → ℕ → ℕ → Result ℕ PutFault → Type 0
Puts piece before after faults_before faults_after (Ok n) =
    (0 < n) × (n ≤ length piece) × Appends (take n piece) before after × (faults_after ≡ faults_before)
Puts piece before after faults_before faults_after (Err Failed) = Rose faults_before faults_after × (after ≡ before)
Puts piece before after faults_before faults_after (Err Memory) = (after ≡ before) × (faults_after ≡ faults_before)

-- all of the bytes are put, or a front part of them and an error
abbrev pub PutsAll : List ℕ → Option (List ℕ) → Option (List ℕ) → Result Unit PutFault → Type 0
PutsAll bytes before after (Ok done) = Appends bytes before after
PutsAll bytes before after (Err fault) = AppendsFront bytes before after
