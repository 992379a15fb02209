use Rattle.mf_plain.specs.UnderWay.{IsLeast}
use Rattle.mf_plain.proofs.least.least.Given as goal

abbrev pub invariant-loop-state : goal.invariant-loop-state
invariant-loop-state l = IsLeast l.values l.taken l.state l.best
