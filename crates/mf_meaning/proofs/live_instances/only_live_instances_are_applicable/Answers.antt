use Rattle.mf_meaning.proofs.LiveInstances.{applicable_is_live, live_is_own}
use Rattle.mf_meaning.proofs.ReachedStates.{reached_is_live}
use Rattle.mf_meaning.proofs.live_instances.only_live_instances_are_applicable.Goals as goal

pub returns-clause-plain : goal.returns-clause-plain
returns-clause-plain c task state instance atoms = applicable_is_live task state atoms instance

pub returns-clause-search : goal.returns-clause-search
returns-clause-search c = reached_is_live

pub returns-clause-own : goal.returns-clause-own
returns-clause-own c = live_is_own
