-- What a search of a task keeps, and what its plan is.
use Rattle.std.specs.Prelude.{◌≡◌, ℕ, List, map, Some, Result, Ok, Err, slice_get}
use Rattle.mf_model.specs.declared.task.TypedTask.{TypedTask}
use Rattle.mf_model.specs.declared.state.Instance.{Instance}
use Rattle.mf_model.specs.declared.state.PlainState.{PlainState}
use Rattle.mf_model.specs.Application.{instances_of}
use Rattle.mf_model.specs.Plans.{IsPlan}
use Rattle.mf_search.specs.declared.status.Status.TheVariants.{Plan}
use Rattle.mf_search.specs.World.{Opened, Legal, World, takes, world}
use Rattle.mf_search.specs.Rebuilt.{states_of}
use Rattle.mf_search.specs.Answers.{Answers, plan_to}
use Rattle.mf_plain.specs.declared.history.History.{History}
use Rattle.mf_plain.specs.declared.history.Searched.{Searched}
use Rattle.mf_plain.specs.declared.fault.TraceFault.{TraceFault}
use Rattle.mf_plain.specs.declared.fault.TraceFault.TheVariants.{NotFound, Memory}
use Rattle.mf_plain.specs.PlainSpace.{space_of}

-- The world that a history of the task makes.
abbrev pub world_of : TypedTask → History → World PlainState
world_of task history = world (space_of task) history.entries

-- The columns are those of the opened states, in the order of their numbers.
pub record Keeps (opened : List (Opened PlainState)) (history : History) : Type 0 where
  pub rows : history.rows ≡ map (λ o. o.state) opened
  pub values : history.values ≡ map (λ o. o.value) opened
  pub makers : history.makers ≡ map (λ o. o.maker) opened

-- The history is legal for one worker and this budget, its answer is the status, and it keeps what it opened.
pub record IsSearched (task : TypedTask) (budget : ℕ) (searched : Searched) : Type 0 where
  pub legal : Legal (space_of task) budget 1 searched.history.entries
  pub answers : Answers budget (world_of task searched.history) searched.status
  pub kept : Keeps (world_of task searched.history).opened searched.history

-- The states that a history takes, in order.
abbrev pub taken_states : TypedTask → History → List PlainState
taken_states task history = states_of (space_of task) (world_of task history).opened (takes history.entries)

-- The steps are the kept instances from the start to the goal that was taken, by the makers.
pub record IsTrace (task : TypedTask) (searched : Searched) (steps : List Instance) : Type 0 where
  pub goal : ℕ
  pub found : searched.status ≡ Plan goal
  pub trace : map Some steps ≡ map (slice_get (instances_of task)) (plan_to (space_of task) (world_of task searched.history).opened goal)

-- The plan is traced where a goal was taken; it isn't found where none was.
abbrev pub Traces : TypedTask → Searched → Result (List Instance) TraceFault → Type 0
Traces task searched (Ok steps) = IsPlan task steps × IsTrace task searched steps
Traces task searched (Err NotFound) = (goal : ℕ) → searched.status ≡ Plan goal → ⊥
Traces task searched (Err Memory) = Unit {0}
