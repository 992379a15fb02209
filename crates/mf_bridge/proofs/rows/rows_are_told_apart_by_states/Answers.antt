use Rattle.mf_task.specs.Grounding.{ground_of}
use Rattle.mf_bridge.proofs.DistinctRows.{contained_alike, rows_apart, same_tests}
use Rattle.mf_bridge.proofs.StateLookups.{packed_is_listed}
use Rattle.mf_bridge.proofs.rows.rows_are_told_apart_by_states.Goals as goal

pub returns-clause-apart : goal.returns-clause-apart
returns-clause-apart c task instances = rows_apart task (ground_of task instances) (packed_is_listed task instances)

pub returns-clause-test : goal.returns-clause-test
returns-clause-test c task instances = same_tests task (ground_of task instances) (packed_is_listed task instances)

pub returns-clause-list : goal.returns-clause-list
returns-clause-list c task instances = contained_alike task (ground_of task instances) (packed_is_listed task instances)
