use Rattle.mf_open.proofs.Keys.{below_apart, below_trans, below_total}
use Rattle.mf_open.proofs.laws.keys_are_ordered.Goals as goal

pub returns-clause-apart : goal.returns-clause-apart
returns-clause-apart c = below_apart

pub returns-clause-through : goal.returns-clause-through
returns-clause-through c = below_trans

pub returns-clause-either : goal.returns-clause-either
returns-clause-either c = below_total
