-- The plan that a history gives.
use Rattle.std.specs.Prelude.{◌≡◌, ℕ, List, map, Option, Some, None, Result, Ok, Err, slice_get}
use Rattle.mf_model.specs.declared.state.Instance.{Instance}
use Rattle.mf_model.specs.LiveInstances.{live_instances}
use Rattle.mf_search.specs.World.{AtGoal, World}
use Rattle.mf_search.specs.Answers.{IsPlanFrom, plan_to}
use Rattle.mf_task.specs.declared.history.History.{History}
use Rattle.mf_task.specs.Histories.{world_of}
use Rattle.mf_task.specs.Successors.{Case, space_of, start_in}
use Rattle.mf_trace.specs.declared.fault.TraceFault.{TraceFault}
use Rattle.mf_trace.specs.declared.fault.TraceFault.TheVariants.{NotFound, Memory}

-- the goal of this number was taken, or none was
abbrev pub IsGoalTaken : {S : Type 0} → World S → Option ℕ → Type 0
IsGoalTaken w (Some goal) = w.ending ≡ AtGoal goal
IsGoalTaken w None = (goal : ℕ) → w.ending ≡ AtGoal goal → ⊥

-- The numbers of the instances from the start to the goal of this number, by the first makers.
abbrev pub numbers_to : Case → History → ℕ → List ℕ
numbers_to case history goal = plan_to (space_of case) (world_of case history).opened goal

-- The steps are the live instances from the start to the goal that was taken, by the first makers. They lead to a goal.
pub record IsTrace (case : Case) (history : History) (steps : List Instance) : Type 0 where
  pub goal : ℕ
  pub taken : (world_of case history).ending ≡ AtGoal goal
  pub trace : map Some steps ≡ map (slice_get (live_instances case.task)) (numbers_to case history goal)
  pub leads : IsPlanFrom (space_of case) (start_in case) (numbers_to case history goal)

-- The plan is traced where a goal was taken, and it is not found where none was.
abbrev pub Traces : Case → History → Result (List Instance) TraceFault → Type 0
Traces case history (Ok steps) = IsTrace case history steps
Traces case history (Err NotFound) = (goal : ℕ) → (world_of case history).ending ≡ AtGoal goal → ⊥
Traces case history (Err Memory) = Unit {0}
