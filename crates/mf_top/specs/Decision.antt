-- What a call comes to before anything is written, and how the steps of a command go together.
use Rattle.std.specs.Prelude.{◌≡◌, ℕ, ◌⊎◌, Result, Ok, Err, List, []}
use Rattle.mf_plain.specs.declared.history.History.{History}
use Rattle.mf_top.specs.declared.decision.Decision.{Decision}

-- the history of a call in which no search returned
abbrev pub no_history : History
no_history = record { rows = []; values = []; makers = []; entries = [] }

-- a text on out, and the history that it answers for
abbrev pub answers : ℕ → List ℕ → History → Decision
answers status text history = record { status = status; out = text; err = []; history = history }

-- a text on err, where no search returned
abbrev pub stops : ℕ → List ℕ → Decision
stops status text = record { status = status; out = []; err = text; history = no_history }

-- the input is refused
abbrev pub refuses : List ℕ → Decision
refuses text = stops 3 text

abbrev pub out_of_memory : Decision
out_of_memory = stops 8 []

-- the decision is this one, unless memory ran out
abbrev pub IsUnlessMemory : Decision → Decision → Type 0
IsUnlessMemory wanted decision = (decision ≡ wanted) ⊎ (decision ≡ out_of_memory)

-- A step hands on a value or ends the call by a decision. The step and then what comes of its value: the first that ends
-- the call decides.
abbrev pub Then : {A : Type 0} → (Result A Decision → Type 0) → (A → Decision → Type 0) → Decision → Type 0
Then {A} Step After decision = Step (Err decision) ⊎ ((value : A) × Step (Ok value) × After value decision)
