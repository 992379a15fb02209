-- The value of a narrow state and its helpful instances, by the heuristic.
use Rattle.std.specs.Prelude.{ℕ, not, if◌then◌else◌, List, [], filter, length, Option, Some, None}
use Rattle.mf_task.specs.declared.task.Task.{Task}
use Rattle.mf_task.specs.declared.value.HeuristicKind.{HeuristicKind}
use Rattle.mf_task.specs.declared.value.HeuristicKind.TheVariants.{Goals, Ff}
use Rattle.mf_task.specs.GroundMeaning.{ground_holds}
use Rattle.mf_task.specs.Layers.{goal_level}
use Rattle.mf_task.specs.LimitClosure.{is_dead}
use Rattle.mf_task.specs.RelaxedPlan.{helpful_instances, plan_length, relaxed_plan}
use Rattle.mf_task.specs.Rows.{Sight}

-- the number of top-level conjuncts of the goal that do not hold
abbrev pub open_goals : Task → Sight → ℕ
open_goals task sight = length (filter (λ part. not (ground_holds task sight part)) task.goal)

-- the value where no layer meets the goal, though the state is not dead
abbrev pub value_without_level : ℕ
value_without_level = 1000000000

abbrev pub length_at : Task → Sight → Option ℕ → ℕ
length_at task sight None = value_without_level
length_at task sight (Some level) = plan_length (relaxed_plan task sight)

abbrev pub live_value : HeuristicKind → Task → Sight → ℕ
live_value Goals task sight = open_goals task sight
live_value Ff task sight = length_at task sight (goal_level task sight)

-- none where the state is dead: its value is infinite
abbrev pub state_value : HeuristicKind → Task → Sight → Option ℕ
state_value kind task sight = if is_dead task sight then None else Some (live_value kind task sight)

abbrev pub live_helpful : HeuristicKind → Task → Sight → List ℕ
live_helpful Goals task sight = []
live_helpful Ff task sight = helpful_instances task sight

-- the numbers of the helpful instances: none of a dead state, nor where the goal has level 0 or none, nor by counting goals
abbrev pub helpful_of : HeuristicKind → Task → Sight → List ℕ
helpful_of kind task sight = if is_dead task sight then [] else live_helpful kind task sight
