use Rattle.mf_permits.specs.Ledger.{IsLeastHeld}
use Rattle.mf_permits.proofs.holding.least_held.Given as goal

abbrev pub invariant-loop-at : goal.invariant-loop-at
invariant-loop-at l = IsLeastHeld l.busy l.values l.at l.best
