-- The commands: the files that each loads, what their bytes decide, and what its calls keep.
use Rattle.std.specs.Prelude.{◌≡◌, ◌≢◌, ℕ, ◌⊎◌, Option, Some, None, Result, Ok, Err, List, [], ◌∷◌, codes}
use Rattle.mf_io.specs.declared.folder.Loading.{Loading}
use Rattle.mf_top.specs.declared.decision.Decision.{Decision}
use Rattle.mf_top.specs.declared.request.Request.{Request}
use Rattle.mf_top.specs.declared.request.Request.TheVariants.{Plan, Validate, Ground}
use Rattle.mf_top.specs.Call.{Call, Delivers, IsUnlessFault, Keeps, Says}
use Rattle.mf_top.specs.Decision.{IsUnlessMemory}
use Rattle.mf_top.specs.Ground.{DecidesGround, Grounds}
use Rattle.mf_top.specs.Loads.{LoadsThen}
use Rattle.mf_top.specs.Plan.{DecidesPlan, Plans}
use Rattle.mf_top.specs.Validate.{DecidesJudgement, Validates}
use Rattle.mf_top.specs.Words.{words_refused}

-- the files of a request, in the order of the words
abbrev pub files_of : Request → List (List ℕ)
files_of (Plan domain problem budget) = domain ∷ problem ∷ []
files_of (Validate domain problem plan) = domain ∷ problem ∷ plan ∷ []
files_of (Ground domain problem) = domain ∷ problem ∷ []

-- what the bytes of these files decide
abbrev pub Decides : Request → List (List ℕ) → Decision → Type 0
Decides (Plan domain_name problem_name budget) (domain ∷ problem ∷ []) decision = DecidesPlan domain_name problem_name budget domain problem decision
Decides (Validate domain_name problem_name plan_name) (domain ∷ problem ∷ source ∷ []) decision = DecidesJudgement domain_name problem_name plan_name domain problem source decision
Decides (Ground domain_name problem_name) (domain ∷ problem ∷ []) decision = DecidesGround domain_name problem_name domain problem decision
Decides request sources decision = ⊥

-- the files of the request are loaded, and then their bytes decide
abbrev pub Comes : (List ℕ → Option (List ℕ)) → Request → (before after : List Loading) → Decision → Type 0
Comes held request before after decision = LoadsThen held (files_of request) (Decides request) before after decision

-- what the calls of each command keep
abbrev pub CommandKeeps : Request → Call → Type 0
CommandKeeps (Plan domain problem budget) call = Plans domain problem budget call
CommandKeeps (Validate domain problem plan) call = Validates domain problem plan call
CommandKeeps (Ground domain problem) call = Grounds domain problem call

-- the call for a request
pub record Serves (request : Request) (call : Call) : Type 0 where
  pub decision : Decision
  pub comes : Comes call.held request call.log_before call.log_after decision
  pub delivers : Delivers decision call.out call.err call.status call.history
  pub accepted : call.status ≢ 2
  pub keeps : Keeps (files_of request) call
  pub command : CommandKeeps request call

-- the call for words that break the rule of the commands: nothing is loaded
pub record Refuses (call : Call) : Type 0 where
  pub decision : Decision
  pub decided : IsUnlessMemory words_refused decision
  pub delivers : Delivers decision call.out call.err call.status call.history
  pub status : IsUnlessFault 2 call.status
  pub text : call.status ≡ 2 → Says [] (codes "words refused\n") call
  pub unloaded : call.log_after ≡ call.log_before
  pub keeps : Keeps [] call

-- the call for what the words ask for
abbrev pub Runs : Option Request → Call → Type 0
Runs None call = Refuses call
Runs (Some request) call = Serves request call
