use Rattle.mf_task.specs.Grounding.{ground_of}
use Rattle.mf_bridge.proofs.RowSights.{row_shows, sights_are_same}
use Rattle.mf_bridge.proofs.StateLookups.{packed_is_listed}
use Rattle.mf_bridge.proofs.rows.rows_show_their_states.Goals as goal

pub returns-clause-look : goal.returns-clause-look
returns-clause-look c = row_shows

pub returns-clause-sight : goal.returns-clause-sight
returns-clause-sight c task instances = sights_are_same task (ground_of task instances) (packed_is_listed task instances)
