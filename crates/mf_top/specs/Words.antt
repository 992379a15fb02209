-- What the words of a call ask for: `validate DOMAIN PROBLEM PLAN`, or `ground DOMAIN PROBLEM`, or `plan DOMAIN PROBLEM`, with `--budget N` where it is
-- wanted, and `--heuristic goals`, in this order and as separate words.
use Rattle.std.specs.Prelude.{◌≡◌, ◌⊎◌, Result, Ok, Err, ℕ, ◌+◌, ◌-◌, ◌*◌, ◌≤◌, Bool, ◌&&◌, if◌then◌else◌, nat_le, List, [], ◌∷◌, length, Option, Some, None, codes, bytes_eq}
use Rattle.std.specs.Char.{is_ascii_digit}
use Rattle.std.specs.Option.{option_map}
use Rattle.std.specs.Str.{IsUtf8}
use Rattle.mf_top.specs.declared.decision.Decision.{Decision}
use Rattle.mf_top.specs.declared.request.Request.{Request}
use Rattle.mf_top.specs.declared.request.Request.TheVariants.{Plan, Validate, Ground}
use Rattle.mf_top.specs.Decision.{stops, out_of_memory, IsUnlessMemory}

abbrev pub default_budget : ℕ
default_budget = 1000000

abbrev pub greatest_budget : ℕ
greatest_budget = 1000000000000

abbrev pub in_range : Option ℕ → Option ℕ
in_range None = None
in_range (Some n) = if nat_le 1 n && nat_le n greatest_budget then Some n else None

-- the number of the decimal digits, after digits that are worth n; nothing where a byte is no digit
abbrev pub number_after : ℕ → List ℕ → Option ℕ
number_after n [] = Some n
number_after n (b ∷ bs) = if is_ascii_digit b then number_after (10 * n + (b - 48)) bs else None

-- a budget is 1 to 20 decimal digits, and lies in its range
abbrev pub budget_of : List ℕ → Option ℕ
budget_of word = if nat_le 1 (length word) && nat_le (length word) 20 then in_range (number_after 0 word) else None

abbrev pub is_plan : List ℕ → Bool
is_plan word = bytes_eq word (codes "plan")

abbrev pub is_validate : List ℕ → Bool
is_validate word = bytes_eq word (codes "validate")

abbrev pub is_ground : List ℕ → Bool
is_ground word = bytes_eq word (codes "ground")

abbrev pub is_budget : List ℕ → Bool
is_budget word = bytes_eq word (codes "--budget")

abbrev pub asks_goals : List ℕ → List ℕ → Bool
asks_goals option value = bytes_eq option (codes "--heuristic") && bytes_eq value (codes "goals")

abbrev pub plan_within : List ℕ → List ℕ → Option ℕ → Option Request
plan_within domain problem budget = option_map (λ n. Plan domain problem n) budget

-- the plan that the words ask for; nothing where they break the rule
abbrev pub plan_request : List (List ℕ) → Option Request
plan_request (command ∷ domain ∷ problem ∷ option ∷ value ∷ []) =
    if is_plan command && asks_goals option value then Some (Plan domain problem default_budget) else None
plan_request (command ∷ domain ∷ problem ∷ limit ∷ number ∷ option ∷ value ∷ []) =
    if is_plan command && (is_budget limit && asks_goals option value) then plan_within domain problem (budget_of number) else None
plan_request _ = None

-- the judgement that the words ask for
abbrev pub validate_request : List (List ℕ) → Option Request
validate_request (command ∷ domain ∷ problem ∷ plan ∷ []) = if is_validate command then Some (Validate domain problem plan) else None
validate_request _ = None

-- the instances that the words ask for
abbrev pub ground_request : List (List ℕ) → Option Request
ground_request (command ∷ domain ∷ problem ∷ []) = if is_ground command then Some (Ground domain problem) else None
ground_request _ = None

abbrev pub either_request : Option Request → Option Request → Option Request
either_request (Some request) other = Some request
either_request None other = other

-- what the words ask for; nothing where they break the rule
abbrev pub request_of : List (List ℕ) → Option Request
request_of words = either_request (validate_request words) (either_request (ground_request words) (plan_request words))

-- a request that words can make: its file names are texts, and its budget lies in the range
abbrev pub IsRequest : Request → Type 0
IsRequest (Plan domain problem budget) = IsUtf8 domain × IsUtf8 problem × (1 ≤ budget) × (budget ≤ greatest_budget)
IsRequest (Validate domain problem plan) = IsUtf8 domain × IsUtf8 problem × IsUtf8 plan
IsRequest (Ground domain problem) = IsUtf8 domain × IsUtf8 problem

-- a plan is asked for
abbrev pub AsksPlan : Request → Type 0
AsksPlan (Plan domain problem budget) = Unit {0}
AsksPlan (Validate domain problem plan) = ⊥
AsksPlan (Ground domain problem) = ⊥

-- a judgement is asked for
abbrev pub AsksJudgement : Request → Type 0
AsksJudgement (Validate domain problem plan) = Unit {0}
AsksJudgement (Plan domain problem budget) = ⊥
AsksJudgement (Ground domain problem) = ⊥

-- the live instances are asked for
abbrev pub AsksInstances : Request → Type 0
AsksInstances (Ground domain problem) = Unit {0}
AsksInstances (Plan domain problem budget) = ⊥
AsksInstances (Validate domain problem plan) = ⊥

abbrev pub words_refused : Decision
words_refused = stops 2 (codes "words refused\n")

-- the step: the request of the words, or their refusal
abbrev pub ReadsWords : List (List ℕ) → Result Request Decision → Type 0
ReadsWords words (Ok request) = (request_of words ≡ Some request) × IsRequest request
ReadsWords words (Err decision) = (decision ≡ out_of_memory) ⊎ ((request_of words ≡ None) × IsUnlessMemory words_refused decision)
