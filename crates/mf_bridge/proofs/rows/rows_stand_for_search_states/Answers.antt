use Rattle.mf_task.specs.Grounding.{ground_of}
use Rattle.mf_bridge.proofs.StateLookups.{packed_is_listed, row_state_is_search_state}
use Rattle.mf_bridge.proofs.rows.rows_stand_for_search_states.Goals as goal

pub returns : goal.returns
returns c task instances = row_state_is_search_state task (ground_of task instances) (packed_is_listed task instances)
