use Rattle.mf_meaning.proofs.SearchSteps.{goal_alike, holds_alike}
use Rattle.mf_meaning.proofs.search_states.conditions_read_search_states.Goals as goal

pub returns-clause-condition : goal.returns-clause-condition
returns-clause-condition c = holds_alike

pub returns-clause-goal : goal.returns-clause-goal
returns-clause-goal c = goal_alike
