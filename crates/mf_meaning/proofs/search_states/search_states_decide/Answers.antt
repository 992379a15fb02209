use Rattle.mf_meaning.proofs.SearchSteps.{applicable_alike, next_alike}
use Rattle.mf_meaning.proofs.search_states.search_states_decide.Goals as goal

pub returns-clause-applicable : goal.returns-clause-applicable
returns-clause-applicable c = applicable_alike

pub returns-clause-next : goal.returns-clause-next
returns-clause-next c = next_alike
