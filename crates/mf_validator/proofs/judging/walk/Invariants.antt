use Rattle.std.proofs.Common.{◌≡◌, drop}
use Rattle.mf_meaning.specs.SortedStates.{IsSortedState}
use Rattle.mf_validator.specs.Verdicts.{verdict_from, verdict_of}
use Rattle.mf_validator.proofs.judging.walk.Given as goal

abbrev pub invariant-loop-done : goal.invariant-loop-done
invariant-loop-done l = record {
  sorted : IsSortedState l.state;
  verdict : verdict_from l.task (drop l.done l.plan) l.done l.state ≡ verdict_of l.task l.plan;
}
