use Rattle.mf_task.specs.Grounding.{ground_of}
use Rattle.mf_bridge.proofs.NextStates.{next_is_next}
use Rattle.mf_bridge.proofs.StateLookups.{packed_is_listed}
use Rattle.mf_bridge.proofs.next_rows.next_rows_stand_for_next_states.Goals as goal

pub returns : goal.returns
returns c task instances = next_is_next task (ground_of task instances) (packed_is_listed task instances)
