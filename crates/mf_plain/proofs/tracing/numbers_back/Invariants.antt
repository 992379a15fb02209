use Rattle.std.proofs.Common.{◌≡◌, ◌++◌, ◌<◌, ℕ, length, reverse}
use Rattle.mf_model.specs.declared.task.TypedTask.{TypedTask}
use Rattle.mf_search.specs.Answers.{plan_to}
use Rattle.mf_plain.specs.PlainSpace.{space_of}
use Rattle.mf_plain.specs.Searches.{IsSearched, world_of}
use Rattle.mf_plain.proofs.tracing.numbers_back.Given as goal

abbrev pub invariant-loop-state : goal.invariant-loop-state
invariant-loop-state l = record {
  within : l.state < length l.makers;
  traced : (task : TypedTask) (budget : ℕ) → IsSearched task budget l.searched → plan_to (space_of task) (world_of task l.searched.history).opened l.state ++ reverse l.numbers ≡ plan_to (space_of task) (world_of task l.searched.history).opened l.goal;
}

abbrev pub decreases-loop-state : goal.decreases-loop-state
decreases-loop-state l = l.state
