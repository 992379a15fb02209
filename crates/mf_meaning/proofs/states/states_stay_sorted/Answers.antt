use Rattle.mf_model.specs.Application.{changes_of}
use Rattle.mf_meaning.proofs.SortedStates.{start_is_sorted, change_is_sorted, search_state_is_sorted, costs_are_sorted}
use Rattle.mf_meaning.proofs.states.states_stay_sorted.Goals as goal

pub returns-clause-start : goal.returns-clause-start
returns-clause-start c = start_is_sorted

pub returns-clause-step : goal.returns-clause-step
returns-clause-step c task state instance sorted = change_is_sorted state (changes_of task state instance) sorted

pub returns-clause-search_state : goal.returns-clause-search_state
returns-clause-search_state c = search_state_is_sorted

pub returns-clause-with_costs : goal.returns-clause-with_costs
returns-clause-with_costs c = costs_are_sorted
