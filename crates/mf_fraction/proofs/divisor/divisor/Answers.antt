use Rattle.std.proofs.Common.{arith}
use Rattle.mf_fraction.proofs.Divisors.{gcd-more, gcd-done}
use Rattle.mf_fraction.proofs.divisor.divisor.Goals as goal

pub loop-y-preserved : goal.loop-y-preserved
loop-y-preserved c = gcd-more _ _ _ (omega arith) c.loop-y.invariant

pub returns-then-y-eq0 : goal.returns-then-y-eq0
returns-then-y-eq0 c = gcd-done _ _ _ (omega arith) c.loop-y.invariant

pub returns : goal.returns
returns c = let e = gcd-more c.loop-y.x c.loop-y.y _ (omega arith) c.loop-y.invariant in cc
