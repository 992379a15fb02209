use Rattle.mf_bridge.proofs.StartRows.{start_has_lowest_values, start_has_shape, start_is_start}
use Rattle.mf_bridge.proofs.rows.starts_are_start_rows.Goals as goal

pub returns-clause-state : goal.returns-clause-state
returns-clause-state c = start_is_start

pub returns-clause-shape : goal.returns-clause-shape
returns-clause-shape c = start_has_shape

pub returns-clause-lowest : goal.returns-clause-lowest
returns-clause-lowest c = start_has_lowest_values
