use Rattle.mf_meaning.proofs.SearchPlans.{same_live_plans}
use Rattle.mf_task.specs.Successors.{start_in}
use Rattle.mf_trace.proofs.Walks.{walk_is_plan}
use Rattle.mf_trace.proofs.laws.traces_are_plans.Goals as goal

pub returns : goal.returns
returns c case numbers state steps walk holds traced = (same_live_plans case.task steps).1 (walk_is_plan case (start_in case) numbers state steps traced walk holds)
