use Rattle.mf_limit.proofs.DeadEnds.{no-goal}
use Rattle.mf_limit.proofs.laws.dead_states_reach_no_goal.Goals as goal

pub returns : goal.returns
returns c = no-goal
