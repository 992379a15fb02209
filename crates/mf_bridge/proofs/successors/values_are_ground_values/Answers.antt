use Rattle.std.proofs.Common.{◌∙◌}
use Rattle.mf_bridge.proofs.GroundSuccessors.{value_is}
use Rattle.mf_bridge.proofs.successors.values_are_ground_values.Goals as goal

pub returns-clause-state : goal.returns-clause-state
returns-clause-state c = value_is

pub returns-clause-row : goal.returns-clause-row
returns-clause-row c case row value shape is = record { value_is = value_is case row shape ∙ is }
