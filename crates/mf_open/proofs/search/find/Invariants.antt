use Rattle.std.proofs.Common.{◌-◌, ◌<◌, ◌≤◌, ℕ, length, get_or}
use Rattle.mf_open.specs.declared.bucket.Bucket.{Bucket}
use Rattle.mf_open.specs.Buckets.{group}
use Rattle.mf_open.proofs.search.find.Given as goal

abbrev pub invariant-loop-low : goal.invariant-loop-low
invariant-loop-low l = record {
  in_order : l.low ≤ l.high;
  within : l.high ≤ length l.buckets;
  above : (k : ℕ) (d : Bucket) → k < l.low → group l.key.value l.key.plain < group (get_or l.buckets k d).value (get_or l.buckets k d).plain;
  below : (k : ℕ) (d : Bucket) → l.high ≤ k → k < length l.buckets → group (get_or l.buckets k d).value (get_or l.buckets k d).plain < group l.key.value l.key.plain;
}

abbrev pub decreases-loop-low : goal.decreases-loop-low
decreases-loop-low l = l.high - l.low
