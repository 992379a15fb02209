use Rattle.std.proofs.Common.{refl, ap}
use Rattle.std.specs.Option.{is_some}
use Rattle.mf_meaning.proofs.Kept.{costs_searched}
use Rattle.mf_meaning.proofs.StartCosts.{costs_kept}
use Rattle.mf_meaning.proofs.search_states.costs_stay_defined.Goals as goal

pub returns-clause-start : goal.returns-clause-start
returns-clause-start c task function objects cost = refl

pub returns-clause-step : goal.returns-clause-step
returns-clause-step c = costs_kept

pub returns-clause-search_state : goal.returns-clause-search_state
returns-clause-search_state c task state function objects cost = ap is_some (costs_searched task state function objects cost)
