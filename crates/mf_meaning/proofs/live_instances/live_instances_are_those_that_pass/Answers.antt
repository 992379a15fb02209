use Rattle.mf_meaning.proofs.LiveInstances.{live_are_filtered}
use Rattle.mf_meaning.proofs.live_instances.live_instances_are_those_that_pass.Goals as goal

pub returns : goal.returns
returns c = live_are_filtered
