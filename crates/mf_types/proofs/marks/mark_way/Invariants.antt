use Rattle.mf_types.proofs.Marked.{IsOnWay}
use Rattle.mf_types.proofs.marks.mark_way.Given as goal

abbrev pub invariant-loop-step : goal.invariant-loop-step
invariant-loop-step l = IsOnWay l.parents l.from l._step l.current l.fn.marks l.marks
