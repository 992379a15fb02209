use Rattle.mf_answers.proofs.InfiniteStates.{dead-start, infinite-state}
use Rattle.mf_answers.proofs.infinite_states.infinite_states_have_no_plan.Goals as goal

pub returns-clause-state : goal.returns-clause-state
returns-clause-state c = infinite-state

pub returns-clause-start : goal.returns-clause-start
returns-clause-start c = dead-start
