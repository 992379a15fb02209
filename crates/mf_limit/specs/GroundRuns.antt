-- Runs of the packed task: lists of live instances, each applicable where those before it lead.
use Rattle.std.specs.Prelude.{◌≡◌, true, List, [], ◌∷◌}
use Rattle.std.specs.List.{Contains}
use Rattle.mf_task.specs.declared.ground.GroundAction.{GroundAction}
use Rattle.mf_task.specs.declared.task.Task.{Task}
use Rattle.mf_task.specs.GroundMeaning.{action_firing, is_ground_applicable, next_sight}
use Rattle.mf_task.specs.Rows.{Sight}

abbrev pub sight_after : Task → Sight → GroundAction → Sight
sight_after task sight action = next_sight task sight (action_firing task sight action)

-- each is an action of the task, and applicable at the sight to which those before it lead
abbrev pub IsGroundRun : Task → Sight → List GroundAction → Type 0
IsGroundRun task sight [] = Unit {0}
IsGroundRun task sight (action ∷ actions) =
    Contains task.actions action × (is_ground_applicable task sight action ≡ true) × IsGroundRun task (sight_after task sight action) actions

-- the sight at its end
abbrev pub end_of_run : Task → Sight → List GroundAction → Sight
end_of_run task sight [] = sight
end_of_run task sight (action ∷ actions) = end_of_run task (sight_after task sight action) actions
