use Rattle.std.proofs.Common.{◌≡◌, ◌++◌, ◌<◌, All, Some, length, map, reverse, slice_get}
use Rattle.mf_plain.proofs.tracing.steps_back.Given as goal

abbrev pub invariant-loop-number : goal.invariant-loop-number
invariant-loop-number l = record {
  within : All (λ n. n < length l.instances) l.numbers;
  traced : map Some l.steps ++ map (slice_get l.instances) (reverse l.numbers) ≡ map (slice_get l.instances) (reverse l.fn.numbers);
}

abbrev pub decreases-loop-number : goal.decreases-loop-number
decreases-loop-number l = length l.numbers
