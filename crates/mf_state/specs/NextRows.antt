-- The next rows: the applicable live instances in order, and the row to which each leads.
use Rattle.std.specs.Prelude.{◌≡◌, ℕ, ◌+◌, Bool, ◌&&◌, true, false, if◌then◌else◌, List, [], ◌∷◌, ◌++◌, map, Some, None, Result, Ok, Err, IfSome, slice_get}
use Rattle.std.specs.List.{All}
use Rattle.mf_store.specs.Rows.{RowLists}
use Rattle.mf_task.specs.declared.ground.GroundAction.{GroundAction}
use Rattle.mf_task.specs.declared.task.Task.{Task}
use Rattle.mf_task.specs.GroundMeaning.{action_firing, is_ground_applicable, next_sight}
use Rattle.mf_task.specs.Rows.{IsRowOf, Sight, sight_of}
use Rattle.mf_task.specs.Width.{is_narrow, leads_out, way_out}
use Rattle.mf_state.specs.declared.fault.StepFault.{StepFault}
use Rattle.mf_state.specs.declared.fault.StepFault.TheVariants as step_fault
use Rattle.mf_state.specs.declared.expansion.Next.{Next}

-- the numbers of the applicable actions, from number n on
abbrev pub applicable_from : Task → Sight → ℕ → List GroundAction → List ℕ
applicable_from task sight n [] = []
applicable_from task sight n (action ∷ actions) =
    if is_ground_applicable task sight action then n ∷ applicable_from task sight (n + 1) actions else applicable_from task sight (n + 1) actions

-- the row to which the action leads: it shows what the next state does, and no comparison is wide at it
pub record IsNextRow (task : Task) (sight : Sight) (action : GroundAction) (row : RowLists) : Type 0 where
  pub shape : IsRowOf task row
  pub shows : sight_of row ≡ next_sight task sight (action_firing task sight action)
  pub narrow : is_narrow task (sight_of row) ≡ true

-- the next row of an action, or its number where it leads out of the width
abbrev pub IsStep : Task → Sight → GroundAction → ℕ → Result RowLists StepFault → Type 0
IsStep task sight action n (Ok row) = (leads_out task sight action ≡ false) × IsNextRow task sight action row
IsStep task sight action n (Err (step_fault.Wide instance)) = (instance ≡ n) × (leads_out task sight action ≡ true)
IsStep task sight action n (Err step_fault.Memory) = Unit {0}

abbrev pub IsNext : Task → Sight → Next → Type 0
IsNext task sight next = IfSome (slice_get task.actions next.instance) (λ action. IsNextRow task sight action next.row)

-- the applicable live instances in order, each with its next row, where none leads out of the width
pub record AreSuccessors (task : Task) (sight : Sight) (list : List Next) : Type 0 where
  pub instances : map (λ next. next.instance) list ≡ applicable_from task sight 0 task.actions
  pub rows : All (IsNext task sight) list
  pub within : way_out task sight ≡ None

-- the successors, or the least applicable live instance that leads out of the width
abbrev pub Steps : Task → Sight → Result (List Next) StepFault → Type 0
Steps task sight (Ok list) = AreSuccessors task sight list
Steps task sight (Err (step_fault.Wide instance)) = way_out task sight ≡ Some instance
Steps task sight (Err step_fault.Memory) = Unit {0}

-- One action more

abbrev pub is_way_out : Task → Sight → GroundAction → Bool
is_way_out task sight action = is_ground_applicable task sight action && leads_out task sight action

abbrev pub instances_of : List Next → List ℕ
instances_of list = map (λ next. next.instance) list

pub record AddsNext (task : Task) (sight : Sight) (action : GroundAction) (n : ℕ) (old new : List Next) : Type 0 where
  pub within : is_way_out task sight action ≡ false
  pub instances : instances_of new ≡ instances_of old ++ applicable_from task sight n (action ∷ [])
  pub rows : slice_get task.actions n ≡ Some action → All (IsNext task sight) old → All (IsNext task sight) new

abbrev pub Adds : Task → Sight → GroundAction → ℕ → List Next → List Next → Result (Unit {0}) StepFault → Type 0
Adds task sight action n old new (Ok done) = AddsNext task sight action n old new
Adds task sight action n old new (Err (step_fault.Wide instance)) = (instance ≡ n) × (is_way_out task sight action ≡ true)
Adds task sight action n old new (Err step_fault.Memory) = Unit {0}
