use Rattle.std.proofs.Common.{◌≡◌, ◌-◌, ◌≤◌, [], length, take}
use Rattle.mf_io.specs.Sink.{Appends}
use Rattle.mf_io.proofs.sink.put_all.Given as goal

abbrev pub decreases-loop-at : goal.decreases-loop-at
decreases-loop-at g l = length l.bytes - l.at

-- So far the front of the bytes was put, the count stayed, and no empty bytes were put.
abbrev pub invariant-loop-at : goal.invariant-loop-at
invariant-loop-at g l =
    (l.at ≤ length l.bytes) ×
    Appends (take l.at l.bytes) (g.S.Sink.written l.fn.sink) (g.S.Sink.written l.sink) ×
    (g.S.Sink.faults l.sink ≡ g.S.Sink.faults l.fn.sink) ×
    (l.bytes ≡ [] → l.sink ≡ l.fn.sink)
