use Rattle.mf_bridge.proofs.GroundSuccessors.{grown_is, leads_out_is}
use Rattle.mf_bridge.proofs.successors.successors_are_ground_successors.Goals as goal

pub returns-clause-list : goal.returns-clause-list
returns-clause-list c case row entries resolved shape lowest are none = grown_is case row shape resolved lowest entries are none

pub returns-clause-rows : goal.returns-clause-rows
returns-clause-rows c case row entries resolved shape lowest are none narrow = record { list_is = grown_is case row shape resolved lowest entries are none; rows_are = narrow }

pub returns-clause-wide : goal.returns-clause-wide
returns-clause-wide c case row instance shape out = record { way_out_is = leads_out_is case row shape instance out }
