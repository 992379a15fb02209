use Rattle.mf_bridge.proofs.GroundSuccessors.{root_is}
use Rattle.mf_bridge.proofs.successors.start_rows_are_roots.Goals as goal

pub returns : goal.returns
returns c = root_is
