-- Plans of plain states and of search states are the same.
use Rattle.std.proofs.Common.{◌↔◌, List, [], ◌∷◌, refl, sym, subst, ◌∙◌}
use Rattle.mf_model.specs.declared.task.TypedTask.{TypedTask}
use Rattle.mf_model.specs.declared.state.Instance.{Instance}
use Rattle.mf_model.specs.declared.state.PlainState.{PlainState}
use Rattle.mf_model.specs.Application.{changes_of, next_state}
use Rattle.mf_model.specs.LiveInstances.{live_instances}
use Rattle.mf_model.specs.Plans.{IsPlan, IsValidFrom}
use Rattle.mf_model.specs.SearchStates.{search_state, HasStartCosts}
use Rattle.mf_model.specs.States.{start_of}
use Rattle.mf_meaning.specs.SearchPlans.{IsSearchPlanAmong, IsSearchPlanFrom}
use Rattle.mf_meaning.specs.SortedStates.{IsSortedState}
use Rattle.mf_meaning.proofs.ReachedStates.{live_plan, plan_of_live, start_is_reached}
use Rattle.mf_meaning.proofs.SearchSteps.{applicable_alike, goal_alike, next_alike}
use Rattle.mf_meaning.proofs.SortedStates.{change_is_sorted, start_is_sorted}
use Rattle.mf_meaning.proofs.StartCosts.{costs_kept}

there : (task : TypedTask) (state : PlainState) (steps : List Instance) → IsSortedState state → HasStartCosts task state → IsValidFrom task state steps → IsSearchPlanFrom task (search_state task state) steps
there task state [] sorted costs valid = sym (goal_alike task state) ∙ valid
there task state (step ∷ steps) sorted costs valid =
    let rest = there task (next_state task state step) steps (change_is_sorted state (changes_of task state step) sorted) (costs_kept task state step costs valid.1) valid.2 in
    (valid.0, sym (applicable_alike task state step costs) ∙ valid.1, subst (λ (next : PlainState). IsSearchPlanFrom task next steps) (next_alike task state step sorted) rest)

back : (task : TypedTask) (state : PlainState) (steps : List Instance) → IsSortedState state → HasStartCosts task state → IsSearchPlanFrom task (search_state task state) steps → IsValidFrom task state steps
back task state [] sorted costs valid = goal_alike task state ∙ valid
back task state (step ∷ steps) sorted costs valid =
    let applicable = applicable_alike task state step costs ∙ valid.1 in
    let rest = subst (λ (next : PlainState). IsSearchPlanFrom task next steps) (sym (next_alike task state step sorted)) valid.2 in
    (valid.0, applicable, back task (next_state task state step) steps (change_is_sorted state (changes_of task state step) sorted) (costs_kept task state step costs applicable) rest)

pub same_plans_from : (task : TypedTask) (state : PlainState) (steps : List Instance) → IsSortedState state → HasStartCosts task state → (IsValidFrom task state steps ↔ IsSearchPlanFrom task (search_state task state) steps)
same_plans_from task state steps sorted costs = (there task state steps sorted costs, back task state steps sorted costs)

pub same_plans : (task : TypedTask) (steps : List Instance) → (IsPlan task steps ↔ IsSearchPlanFrom task (search_state task (start_of task)) steps)
same_plans task steps = same_plans_from task (start_of task) steps (start_is_sorted task) (λ function objects cost. refl)

pub same_live_plans : (task : TypedTask) (steps : List Instance) → (IsPlan task steps ↔ IsSearchPlanAmong task (live_instances task) (search_state task (start_of task)) steps)
same_live_plans task steps =
    let same = same_plans task steps in
    let start = search_state task (start_of task) in
    (λ plan. live_plan task start steps (start_is_reached task) (same.0 plan), λ plan. same.1 (plan_of_live task start steps plan))
