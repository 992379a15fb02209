use Rattle.mf_meaning.proofs.CostValues.{search_state-with_costs}
use Rattle.mf_meaning.proofs.Kept.{costs_searched}
use Rattle.mf_meaning.proofs.search_states.search_states_keep_costs_out.Goals as goal

pub returns-clause-out : goal.returns-clause-out
returns-clause-out c = search_state-with_costs

pub returns-clause-values : goal.returns-clause-values
returns-clause-values c = costs_searched
