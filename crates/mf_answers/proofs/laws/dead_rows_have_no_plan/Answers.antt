use Rattle.std.proofs.Common.{subst}
use Rattle.mf_model.specs.LiveInstances.{live_instances}
use Rattle.mf_meaning.specs.SearchPlans.{IsSearchPlanFrom}
use Rattle.mf_meaning.proofs.ReachedStates.{live_plan}
use Rattle.mf_meaning.proofs.SearchPlans.{same_plans_from}
use Rattle.mf_task.specs.RowStates.{state_of}
use Rattle.mf_task.specs.Successors.{packed_of}
use Rattle.mf_bridge.proofs.StateLookups.{packed_is_listed, row_state_is_search_state}
use Rattle.mf_answers.proofs.DeadRows.{dead-row}
use Rattle.mf_answers.proofs.laws.dead_rows_have_no_plan.Goals as goal

pub returns-clause-search : goal.returns-clause-search
returns-clause-search c task row resolved shape lowest dead steps plan =
    dead-row task resolved row shape lowest dead steps (live_plan task (state_of task (packed_of task) row) steps (row_state_is_search_state task (packed_of task) (packed_is_listed task (live_instances task)) row) plan)

pub returns-clause-plain : goal.returns-clause-plain
returns-clause-plain c task row resolved shape lowest dead state sorted costs same steps valid =
    dead-row task resolved row shape lowest dead steps
    (live_plan task (state_of task (packed_of task) row) steps (row_state_is_search_state task (packed_of task) (packed_is_listed task (live_instances task)) row)
    (subst (λ x. IsSearchPlanFrom task x steps) same ((same_plans_from task state steps sorted costs).0 valid)))
