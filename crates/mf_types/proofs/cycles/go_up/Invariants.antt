use Rattle.mf_types.proofs.Settled.{IsWalked}
use Rattle.mf_types.proofs.cycles.go_up.Given as goal

abbrev pub invariant-loop-steps : goal.invariant-loop-steps
invariant-loop-steps l = IsWalked l.parents l.settled.keys l.from l.steps l.current
