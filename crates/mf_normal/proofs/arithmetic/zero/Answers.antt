use Rattle.mf_fraction.specs.Exact.{whole}
use Rattle.mf_normal.proofs.Numbers.{answered_ok, zero_fits}
use Rattle.mf_normal.proofs.arithmetic.zero.Goals as goal

pub unreachable-requires : goal.unreachable-requires
unreachable-requires c = zero_fits _ _ c.whole.ensures c.in_default.is

pub returns-clause-value : goal.returns-clause-value
returns-clause-value c = (answered_ok _ _ _ c.whole.ensures c.in-Ok.is).0

pub returns-clause-fits : goal.returns-clause-fits
returns-clause-fits c = (answered_ok _ _ _ c.whole.ensures c.in-Ok.is).1
