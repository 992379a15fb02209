-- The command `ground`: what its two files decide, and what its calls keep.
use Rattle.std.specs.Prelude.{◌≡◌, ℕ, ◌<◌, ◌⊎◌, Some, List, [], ◌∷◌, length, codes}
use Rattle.mf_model.specs.declared.task.TypedTask.{TypedTask}
use Rattle.mf_model.specs.LiveInstances.{live_instances, live_prefix_count}
use Rattle.mf_input.specs.Files.{IsTaskOfFiles}
use Rattle.mf_ground.specs.Nodes.{node_count}
use Rattle.mf_ground.specs.Outcome.{HasFewPrefixes, HasFewInstances, HasFewNodes}
use Rattle.mf_top.specs.declared.decision.Decision.{Decision}
use Rattle.mf_top.specs.Call.{Call, Says, IsUnlessFault, LastLoadFails, IsFaultless}
use Rattle.mf_top.specs.Decision.{no_history, answers, refuses, out_of_memory, Then}
use Rattle.mf_top.specs.Loads.{AllFit, SomeIsTooLong, IsLengthRefusal}
use Rattle.mf_top.specs.Task.{ReadsTask, IsTaskRefusal}
use Rattle.mf_top.specs.Texts.{instances_text}

-- The step

pub record KeepsLimits (task : TypedTask) : Type 0 where
  pub prefixes : HasFewPrefixes task
  pub instances : HasFewInstances task
  pub nodes : HasFewNodes task

-- the task passes a limit, and this is the text for the first that it passes
abbrev pub IsLimitRefusal : TypedTask → (text : List ℕ) → Type 0
IsLimitRefusal task text =
    ((20000000 < live_prefix_count task) × (text ≡ codes "task: too many prefixes\n"))
    ⊎ (HasFewPrefixes task × (1000000 < length (live_instances task)) × (text ≡ codes "task: too many instances\n"))
    ⊎ (HasFewPrefixes task × HasFewInstances task × (20000000 < node_count task) × (text ≡ codes "task: too many nodes\n"))

-- the live instances in their order, and then how many they are and how many nodes
abbrev pub ground_text : TypedTask → List ℕ
ground_text task = instances_text task (live_instances task) (node_count task)

-- the live instances are listed; or the task passes a limit, and is refused
abbrev pub ListsInstances : TypedTask → Decision → Type 0
ListsInstances task decision =
    (decision ≡ out_of_memory)
    ⊎ (KeepsLimits task × (decision ≡ answers 0 (ground_text task) no_history))
    ⊎ ((text : List ℕ) × IsLimitRefusal task text × (decision ≡ refuses text))

-- the task of the two files is read, and then its instances are listed
abbrev pub DecidesGround : (domain_name problem_name domain problem : List ℕ) → Decision → Type 0
DecidesGround domain_name problem_name domain problem = Then (ReadsTask domain_name problem_name domain problem) ListsInstances

-- The input

-- the files have a task, which passes a limit, and this is the text for the first
pub record PassesLimit (domain problem text : List ℕ) : Type 0 where
  pub task : TypedTask
  pub of_files : IsTaskOfFiles domain problem task
  pub first : IsLimitRefusal task text

-- this text refuses the two files: for their lengths, or else for their contents, or else for a limit that their task passes
abbrev pub IsGroundRefusal : (domain_name problem_name domain problem text : List ℕ) → Type 0
IsGroundRefusal domain_name problem_name domain problem text =
    IsLengthRefusal (domain_name ∷ problem_name ∷ []) (domain ∷ problem ∷ []) text
    ⊎ (AllFit (domain ∷ problem ∷ []) × IsTaskRefusal domain_name problem_name domain problem text)
    ⊎ (AllFit (domain ∷ problem ∷ []) × PassesLimit domain problem text)

-- a file is longer than allowed, or the two have no task that keeps the limits
abbrev pub IsRefusedGround : (domain problem : List ℕ) → Type 0
IsRefusedGround domain problem =
    SomeIsTooLong (domain ∷ problem ∷ []) ⊎ ((task : TypedTask) → IsTaskOfFiles domain problem task → KeepsLimits task → ⊥)

-- The answer

-- the files have this task, and it keeps the limits
pub record HaveInstances (domain problem : List ℕ) (task : TypedTask) : Type 0 where
  pub allowed : AllFit (domain ∷ problem ∷ [])
  pub of_files : IsTaskOfFiles domain problem task
  pub limits : KeepsLimits task

-- its live instances are written, with their number and that of nodes
pub record PrintsInstances (domain problem : List ℕ) (call : Call) : Type 0 where
  pub task : TypedTask
  pub have : HaveInstances domain problem task
  pub printed : Says (ground_text task) [] call

-- What the calls keep

-- of files with these bytes: their task's live instances are printed, wherever it keeps the limits
pub record GroundsFiles (domain_name problem_name domain problem : List ℕ) (call : Call) : Type 0 where
  pub instances : call.status ≡ 0 → PrintsInstances domain problem call
  pub refused : call.status ≡ 3 → IsRefusedGround domain problem
  pub refused_text : call.status ≡ 3 → (text : List ℕ) × IsGroundRefusal domain_name problem_name domain problem text × Says [] text call
  pub refusal : (LastLoadFails (domain_name ∷ problem_name ∷ []) call → ⊥) → IsRefusedGround domain problem → IsUnlessFault 3 call.status
  pub have_instances : (LastLoadFails (domain_name ∷ problem_name ∷ []) call → ⊥) → (task : TypedTask) → HaveInstances domain problem task → IsUnlessFault 0 call.status
  pub complete : IsFaultless (domain_name ∷ problem_name ∷ []) call → (IsRefusedGround domain problem → ⊥) → (call.status ≡ 0) ⊎ (call.status ≡ 8)

pub record Grounds (domain_name problem_name : List ℕ) (call : Call) : Type 0 where
  pub searched_nothing : call.history ≡ no_history
  pub statuses : (call.status ≡ 0) ⊎ (call.status ≡ 3) ⊎ (call.status ≡ 4) ⊎ (call.status ≡ 5) ⊎ (call.status ≡ 8)
  pub quiet : call.status ≡ 0 → call.err.after ≡ call.err.before
  pub files : (domain problem : List ℕ) → call.held domain_name ≡ Some domain → call.held problem_name ≡ Some problem →
      GroundsFiles domain_name problem_name domain problem call
