-- No plan leads from a state of infinite value, nor from a start whose row is dead.
use Rattle.std.proofs.Common.{◌≡◌, if◌then◌else◌, Bool, true, false, List, Some, None, refl, sym, subst, ap, ◌∙◌}
use Rattle.mf_store.specs.Rows.{RowLists}
use Rattle.mf_model.specs.declared.state.Instance.{Instance}
use Rattle.mf_model.specs.declared.state.PlainState.{PlainState}
use Rattle.mf_model.specs.declared.task.TypedTask.{TypedTask}
use Rattle.mf_model.specs.LiveInstances.{live_instances}
use Rattle.mf_model.specs.Plans.{IsPlan}
use Rattle.mf_model.specs.ResolvedTask.{IsResolvedTask}
use Rattle.mf_meaning.specs.SearchPlans.{IsSearchPlanAmong, IsSearchPlanFrom}
use Rattle.mf_meaning.proofs.ReachedStates.{live_plan}
use Rattle.mf_meaning.proofs.SearchPlans.{same_live_plans}
use Rattle.mf_task.specs.declared.task.Task.{Task}
use Rattle.mf_task.specs.declared.value.HeuristicKind.{HeuristicKind}
use Rattle.mf_task.specs.CaseRows.{meaning_of}
use Rattle.mf_task.specs.HeuristicValues.{live_value, state_value}
use Rattle.mf_task.specs.LimitClosure.{is_dead}
use Rattle.mf_task.specs.Rows.{IsRowOf, Sight, sight_of}
use Rattle.mf_task.specs.RowStates.{state_of}
use Rattle.mf_task.specs.Successors.{Case, packed_of, space_of}
use Rattle.mf_bridge.specs.StoredRows.{HasLowestValues}
use Rattle.mf_bridge.proofs.GroundSuccessors.{value_is}
use Rattle.mf_bridge.proofs.StartRows.{start_has_lowest_values, start_has_shape, start_is_start}
use Rattle.mf_bridge.proofs.StateLookups.{packed_is_listed, row_state_is_search_state}
use Rattle.mf_answers.proofs.DeadRows.{dead-row}

pub dead-start : (task : TypedTask) → IsResolvedTask task → is_dead (packed_of task) (sight_of (packed_of task).start) ≡ true → (steps : List Instance) → IsPlan task steps → ⊥
dead-start task resolved dead steps plan =
    dead-row task resolved (packed_of task).start (start_has_shape task (live_instances task)) (start_has_lowest_values task (live_instances task) resolved) dead steps
    (subst (λ (state : PlainState). IsSearchPlanAmong task (live_instances task) state steps) (sym (start_is_start task (live_instances task))) ((same_live_plans task steps).0 plan))

dead-by-value : (kind : HeuristicKind) (task : Task) (sight : Sight) → state_value kind task sight ≡ None → is_dead task sight ≡ true
dead-by-value kind task sight infinite = by (is_dead task sight) refl
  where
    by : (dead : Bool) → is_dead task sight ≡ dead → dead ≡ true
    by true e = refl
    by false e =
        let finite : Some (live_value kind task sight) ≡ None = sym (ap (λ (dead : Bool). if dead then None else Some (live_value kind task sight)) e) ∙ infinite in
        cc

pub infinite-state : (case : Case) (row : RowLists) → IsResolvedTask case.task → IsRowOf (packed_of case.task) row → HasLowestValues row → (space_of case).value (meaning_of case row) ≡ None → (steps : List Instance) → IsSearchPlanFrom case.task (meaning_of case row) steps → ⊥
unfolding meaning_of
infinite-state case row resolved shape lowest infinite steps plan =
    dead-row case.task resolved row shape lowest (dead-by-value case.heuristic (packed_of case.task) (sight_of row) (sym (value_is case row shape) ∙ infinite)) steps
    (live_plan case.task (state_of case.task (packed_of case.task) row) steps (row_state_is_search_state case.task (packed_of case.task) (packed_is_listed case.task (live_instances case.task)) row) plan)
