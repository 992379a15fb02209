use Rattle.mf_types.proofs.Settled.{IsSettled}
use Rattle.mf_types.proofs.cycles.settle.Given as goal

abbrev pub invariant-loop-step : goal.invariant-loop-step
invariant-loop-step l = IsSettled l.parents l.from l._step l.current l.fn.settled.keys l.settled.keys
