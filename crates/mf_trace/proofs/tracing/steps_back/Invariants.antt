use Rattle.std.proofs.Common.{◌≡◌, ◌++◌, ◌<◌, All, Some, length, map, reverse, slice_get}
use Rattle.mf_trace.proofs.tracing.steps_back.Given as goal

abbrev pub invariant-loop-number : goal.invariant-loop-number
invariant-loop-number l = record {
  within : All (λ n. n < length l.actions) l.numbers;
  traced : map Some l.steps ++ map (slice_get (map (λ action. action.instance) l.actions)) (reverse l.numbers) ≡ map (slice_get (map (λ action. action.instance) l.actions)) (reverse l.fn.numbers);
}

abbrev pub decreases-loop-number : goal.decreases-loop-number
decreases-loop-number l = length l.numbers
