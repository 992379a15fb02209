-- The command `plan`: what its two files decide, and what its calls keep.
use Rattle.std.specs.Prelude.{◌≡◌, ℕ, ◌<◌, ◌⊎◌, Option, Some, List, [], ◌∷◌, ◌++◌, Contains, length, take, codes}
use Rattle.mf_model.specs.declared.task.TypedTask.{TypedTask}
use Rattle.mf_model.specs.declared.state.Instance.{Instance}
use Rattle.mf_model.specs.declared.state.PlainState.{PlainState}
use Rattle.mf_model.specs.Plans.{IsPlan}
use Rattle.mf_search.specs.declared.entry.Entry.{Entry}
use Rattle.mf_search.specs.declared.status.Status.{Status}
use Rattle.mf_search.specs.declared.status.Status.TheVariants as status
use Rattle.mf_search.specs.Reaching.{IsReached}
use Rattle.mf_search.specs.World.{AllDifferent, Legal, WasOpened, at, opened_states, takes, world}
use Rattle.mf_search.specs.Greedy.{Greedy, IsGreedyRunTo}
use Rattle.mf_search.specs.Rebuilt.{rebuilt_run}
use Rattle.mf_search.specs.Answers.{Ended}
use Rattle.mf_input.specs.Files.{IsTaskOfFiles}
use Rattle.mf_plain.specs.declared.history.History.{History}
use Rattle.mf_plain.specs.declared.history.Searched.{Searched}
use Rattle.mf_plain.specs.PlainSpace.{space_of}
use Rattle.mf_plain.specs.PlainTask.{IsPlainTask}
use Rattle.mf_plain.specs.Searches.{IsSearched, IsTrace, taken_states, world_of}
use Rattle.mf_top.specs.declared.decision.Decision.{Decision}
use Rattle.mf_top.specs.Call.{Call, Written, Says, IsUnlessFault, LastLoadFails, IsFaultless}
use Rattle.mf_top.specs.Decision.{no_history, Then}
use Rattle.mf_top.specs.Loads.{AllFit, SomeIsTooLong, IsLengthRefusal}
use Rattle.mf_top.specs.Search.{Searches}
use Rattle.mf_top.specs.Task.{ReadsTask, IsTaskRefusal}
use Rattle.mf_top.specs.Texts.{plan_text, budget_text}

-- the task of the two files is read, and then searched
abbrev pub DecidesPlan : (domain_name problem_name : List ℕ) → ℕ → (domain problem : List ℕ) → Decision → Type 0
DecidesPlan domain_name problem_name budget domain problem = Then (ReadsTask domain_name problem_name domain problem) (λ task. Searches task budget)

-- The input

-- the files have a task that isn't plain
pub record IsNotBuilt (domain problem text : List ℕ) : Type 0 where
  pub task : TypedTask
  pub of_files : IsTaskOfFiles domain problem task
  pub not_plain : IsPlainTask task → ⊥
  pub text_is : text ≡ codes "task: not built\n"

-- this text refuses the two files: for their lengths, or else for their contents, or else for a task that isn't plain
abbrev pub IsInputRefusal : (domain_name problem_name domain problem text : List ℕ) → Type 0
IsInputRefusal domain_name problem_name domain problem text =
    IsLengthRefusal (domain_name ∷ problem_name ∷ []) (domain ∷ problem ∷ []) text
    ⊎ (AllFit (domain ∷ problem ∷ []) × IsTaskRefusal domain_name problem_name domain problem text)
    ⊎ (AllFit (domain ∷ problem ∷ []) × IsNotBuilt domain problem text)

-- a file is longer than allowed, or the two have no plain task
abbrev pub IsRefusedInput : (domain problem : List ℕ) → Type 0
IsRefusedInput domain problem =
    SomeIsTooLong (domain ∷ problem ∷ []) ⊎ ((task : TypedTask) → IsTaskOfFiles domain problem task → IsPlainTask task → ⊥)

-- The answers

-- the history is that of a search of a task of the files for one worker: it is legal, keeps what it opened, and has an answer
pub record SearchOf (domain problem : List ℕ) (budget : ℕ) (history : History) : Type 0 where
  pub task : TypedTask
  pub of_files : IsTaskOfFiles domain problem task
  pub searched : Searched
  pub is_searched : IsSearched task budget searched
  pub returned : history ≡ searched.history

-- a plan of the task is written, which is the trace of the history
pub record PrintsPlan (domain problem : List ℕ) (budget : ℕ) (call : Call) : Type 0 where
  pub search : SearchOf domain problem budget call.history
  pub steps : List Instance
  pub valid : IsPlan search.task steps
  pub traced : IsTrace search.task search.searched steps
  pub printed : Says (plan_text search.task steps) [] call

-- the history's answer is no plan, and no list of steps is a plan of the task
pub record HasNoPlan (domain problem : List ℕ) (budget : ℕ) (history : History) : Type 0 where
  pub search : SearchOf domain problem budget history
  pub answered : search.searched.status ≡ status.NoPlan
  pub none : (steps : List Instance) → IsPlan search.task steps → ⊥

-- at least one byte of `no plan` was written on out, which tells what was written
pub record BeginsNoPlan (out : Written) : Type 0 where
  pub written : List ℕ
  pub told : out.before ≡ Some written
  pub more : ℕ
  pub some : 0 < more
  pub begun : out.after ≡ Some (written ++ take more (codes "no plan\n"))

-- the search took as many states as its budget, which is written, and opened more, each of which is reached from the start
pub record ReachesBudget (domain problem : List ℕ) (budget : ℕ) (call : Call) : Type 0 where
  pub search : SearchOf domain problem budget call.history
  pub answered : search.searched.status ≡ status.Budget
  pub all_taken : length (takes search.searched.history.entries) ≡ budget
  pub more_opened : budget < length search.searched.history.rows
  pub reached : (x : PlainState) → WasOpened (space_of search.task) (world_of search.task search.searched.history).opened x → IsReached (space_of search.task) x
  pub printed : Says (budget_text budget) [] call

-- The history

-- the status that the answer of a search gives
abbrev pub search_status : Status → ℕ
search_status (status.Plan goal) = 0
search_status status.NoPlan = 1
search_status status.Budget = 6
search_status (status.Width state instance) = 7
search_status status.Running = 8
search_status status.Halted = 8

-- One-thread greedy best-first search with open ties (Heusner, Keller and Helmert, SoCS 2017) of a task of the files; its
-- answer gives the status of the call, unless something failed
pub record IsGreedySearch (domain problem : List ℕ) (budget : ℕ) (history : History) (answer : ℕ) : Type 0 where
  pub search : SearchOf domain problem budget history
  pub status_is : IsUnlessFault (search_status search.searched.status) answer
  -- no state is taken twice, and no two opened states are the same
  pub once : AllDifferent (takes search.searched.history.entries)
  pub apart : AllDifferent (opened_states (world_of search.task search.searched.history))
  -- each taken state is the last member of a greedy run, and so are the taken states, in their order, themselves one
  pub reached : (i : ℕ) → Contains (takes search.searched.history.entries) i →
      IsGreedyRunTo (space_of search.task) (rebuilt_run (space_of search.task) search.searched.history.entries i) (at (space_of search.task) (world_of search.task search.searched.history).opened i).state
  pub greedy : Greedy (space_of search.task) (taken_states search.task search.searched.history)
  -- no other legal history for one worker has an answer
  pub only : (entries : List Entry) → Legal (space_of search.task) budget 1 entries → Ended budget (world (space_of search.task) entries) → entries ≡ search.searched.history.entries

-- What the calls keep

abbrev pub IsSearchStatus : ℕ → Type 0
IsSearchStatus answer = (answer ≡ 0) ⊎ (answer ≡ 1) ⊎ (answer ≡ 6)

-- of files with these bytes
pub record PlansFiles (domain_name problem_name : List ℕ) (budget : ℕ) (domain problem : List ℕ) (call : Call) : Type 0 where
  pub plan : call.status ≡ 0 → PrintsPlan domain problem budget call
  pub no_plan : call.status ≡ 1 → HasNoPlan domain problem budget call.history
  pub no_plan_begun : BeginsNoPlan call.out → HasNoPlan domain problem budget call.history
  pub budget_reached : call.status ≡ 6 → ReachesBudget domain problem budget call
  pub searched : IsSearchStatus call.status → IsGreedySearch domain problem budget call.history call.status
  pub history : (call.history ≡ no_history) ⊎ IsGreedySearch domain problem budget call.history call.status
  pub refused : call.status ≡ 3 → IsRefusedInput domain problem
  pub refused_text : call.status ≡ 3 → (text : List ℕ) × IsInputRefusal domain_name problem_name domain problem text × Says [] text call
  pub refusal : (LastLoadFails (domain_name ∷ problem_name ∷ []) call → ⊥) → IsRefusedInput domain problem → IsUnlessFault 3 call.status
  pub complete : IsFaultless (domain_name ∷ problem_name ∷ []) call → (IsRefusedInput domain problem → ⊥) → IsSearchStatus call.status ⊎ (call.status ≡ 8)

pub record Plans (domain_name problem_name : List ℕ) (budget : ℕ) (call : Call) : Type 0 where
  pub no_plan_text : call.status ≡ 1 → Says (codes "no plan\n") [] call
  pub quiet : IsSearchStatus call.status → call.err.after ≡ call.err.before
  pub files : (domain problem : List ℕ) → call.held domain_name ≡ Some domain → call.held problem_name ≡ Some problem →
      PlansFiles domain_name problem_name budget domain problem call
