-- What holds of a search under way.
use Rattle.std.specs.Prelude.{◌≡◌, ℕ, ◌+◌, ◌<◌, ◌≤◌, ◌⊎◌, Bool, true, false, List, Option, Some, None, Contains, length, get_or}
use Rattle.mf_model.specs.declared.task.TypedTask.{TypedTask}
use Rattle.mf_model.specs.declared.state.PlainState.{PlainState}
use Rattle.mf_search.specs.declared.status.Status.{Status}
use Rattle.mf_search.specs.World.{Opened, Going, Legal}
use Rattle.mf_search.specs.Answers.{AllIdle}
use Rattle.mf_search.specs.Columns.{Columns}
use Rattle.mf_plain.specs.declared.progress.Progress.{Progress}
use Rattle.mf_plain.specs.PlainSpace.{space_of}
use Rattle.mf_plain.specs.Searches.{IsSearched, world_of}

-- The columns of the search are those of the opened states and of the taken numbers.
abbrev pub Tracks : List (Opened PlainState) → List ℕ → Progress → Type 0
Tracks os taken progress = Columns os taken progress.history.rows progress.history.values progress.history.makers progress.taken.items

-- Every taken state was opened.
abbrev pub TakenBelow : List ℕ → List (Opened PlainState) → Type 0
TakenBelow taken os = (k : ℕ) → Contains taken k → k < length os

-- The history is legal for one worker, nothing is in expansion, and so many states were taken.
pub record IsUnderWay (task : TypedTask) (budget takes : ℕ) (progress : Progress) : Type 0 where
  pub legal : Legal (space_of task) budget 1 progress.history.entries
  pub going : (world_of task progress.history).ending ≡ Going
  pub idle : AllIdle (world_of task progress.history)
  pub columns : Tracks (world_of task progress.history).opened (world_of task progress.history).taken progress
  pub count : length (world_of task progress.history).taken ≡ takes

-- After one more take the search goes on, or it has the status as its answer.
abbrev pub IsNext : TypedTask → ℕ → ℕ → Progress → Option Status → Type 0
IsNext task budget takes progress None = IsUnderWay task budget (takes + 1) progress
IsNext task budget takes progress (Some status) = IsSearched task budget (record { history = progress.history; status = status })

-- Of the first n states this is an open one of least value, and the first of those; or none of them is open.
abbrev pub IsLeast : List ℕ → List Bool → ℕ → Option ℕ → Type 0
IsLeast values flags n None = (j : ℕ) → j < n → get_or flags j false ≡ true
IsLeast values flags n (Some i) =
    (i < n) × (get_or flags i false ≡ false)
    × ((j : ℕ) → j < n → get_or flags j false ≡ false → (get_or values i 0 < get_or values j 0) ⊎ (get_or values i 0 ≡ get_or values j 0) × (i ≤ j))
