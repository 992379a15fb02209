use Rattle.mf_meaning.proofs.SameStates.{same_states}
use Rattle.mf_meaning.proofs.states.sorted_states_are_told_apart.Goals as goal

pub returns : goal.returns
returns c = same_states
