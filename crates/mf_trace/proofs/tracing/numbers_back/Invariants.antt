use Rattle.std.proofs.Common.{◌≡◌, ◌++◌, ◌<◌, length, reverse}
use Rattle.mf_search.specs.Answers.{plan_to}
use Rattle.mf_task.specs.Histories.{world_of}
use Rattle.mf_task.specs.Successors.{space_of}
use Rattle.mf_trace.proofs.tracing.numbers_back.Given as goal

abbrev pub invariant-loop-state : goal.invariant-loop-state
invariant-loop-state g l = record {
  within : l.state < length l.makers;
  traced : plan_to (space_of g.N.Naming.case) (world_of g.N.Naming.case l.history).opened l.state ++ reverse l.numbers ≡ plan_to (space_of g.N.Naming.case) (world_of g.N.Naming.case l.history).opened l.goal;
}

abbrev pub decreases-loop-state : goal.decreases-loop-state
decreases-loop-state g l = l.state
