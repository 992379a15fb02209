-- What holds of the start as a search state, and of each search state to which instances lead.
use Rattle.std.proofs.Common.{◌≡◌, true, List, [], ◌∷◌, refl, ap}
use Rattle.std.specs.List.{Contains}
use Rattle.mf_model.specs.declared.task.Valued.{Valued}
use Rattle.mf_model.specs.declared.task.TypedTask.{TypedTask}
use Rattle.mf_model.specs.declared.state.Instance.{Instance}
use Rattle.mf_model.specs.declared.state.PlainState.{PlainState}
use Rattle.mf_model.specs.Application.{changes_of, instances_of, is_applicable, next_state}
use Rattle.mf_model.specs.LiveInstances.{live_instances}
use Rattle.mf_model.specs.SearchStates.{search_state, with_costs}
use Rattle.mf_model.specs.States.{start_of}
use Rattle.mf_meaning.specs.ReachedStates.{IsSearchState}
use Rattle.mf_meaning.specs.SearchPlans.{IsSearchPlanAmong, IsSearchPlanFrom, next_search_state}
use Rattle.mf_meaning.proofs.CostValues.{filter_twice, is_no_cost}
use Rattle.mf_meaning.proofs.Kept.{atoms_kept, constants_kept, constants_searched}
use Rattle.mf_meaning.proofs.LiveInstances.{applicable_is_live, live_is_own}
use Rattle.mf_meaning.proofs.SortedStates.{change_is_sorted, costs_are_sorted, search_state_is_sorted, start_is_sorted}

costs_once : (task : TypedTask) (state : PlainState) → search_state task (search_state task state) ≡ search_state task state
costs_once task state = ap (λ (vs : List Valued). record { atoms = state.atoms; values = vs }) (filter_twice (λ v. is_no_cost task v.cell.function) state.values)

pub start_is_reached : (task : TypedTask) → IsSearchState task (search_state task (start_of task))
start_is_reached task = record {
  sorted = search_state_is_sorted task (start_of task) (start_is_sorted task);
  costless = costs_once task (start_of task);
  atoms = λ predicate objects static. refl;
  constants = constants_searched task (start_of task) (λ function objects constant. refl);
}

pub step_is_reached : (task : TypedTask) (state : PlainState) (instance : Instance) → IsSearchState task state → IsSearchState task (next_search_state task state instance)
step_is_reached task state instance reached =
    let before = with_costs task state in
    let after = next_state task before instance in
    record {
      sorted = search_state_is_sorted task after (change_is_sorted before (changes_of task before instance) (costs_are_sorted task state reached.sorted));
      costless = costs_once task after;
      atoms = atoms_kept task before instance reached.atoms;
      constants = constants_searched task after (constants_kept task before instance reached.constants);
    }

-- plans among live instances

pub reached_is_live : (task : TypedTask) (state : PlainState) (instance : Instance) → IsSearchState task state → Contains (instances_of task) instance → is_applicable task (with_costs task state) instance ≡ true → Contains (live_instances task) instance
reached_is_live task state instance reached = applicable_is_live task (with_costs task state) reached.atoms instance

pub live_plan : (task : TypedTask) (state : PlainState) (steps : List Instance) → IsSearchState task state → IsSearchPlanFrom task state steps → IsSearchPlanAmong task (live_instances task) state steps
live_plan task state [] reached plan = plan
live_plan task state (step ∷ steps) reached plan =
    (reached_is_live task state step reached plan.0 plan.1, plan.1, live_plan task (next_search_state task state step) steps (step_is_reached task state step reached) plan.2)

pub plan_of_live : (task : TypedTask) (state : PlainState) (steps : List Instance) → IsSearchPlanAmong task (live_instances task) state steps → IsSearchPlanFrom task state steps
plan_of_live task state [] plan = plan
plan_of_live task state (step ∷ steps) plan = (live_is_own task step plan.0, plan.1, plan_of_live task (next_search_state task state step) steps plan.2)
