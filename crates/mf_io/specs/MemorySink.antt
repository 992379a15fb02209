-- What a sink in memory does at a put.
use Rattle.std.specs.Prelude.{◌≡◌, ℕ, min, true, false, Result, Ok, Err, List, ◌++◌, length, take}
use Rattle.mf_io.specs.declared.sink.PutFault.{PutFault}
use Rattle.mf_io.specs.declared.sink.PutFault.TheVariants.{Failed, Memory}
use Rattle.mf_io.specs.declared.memory_sink.MemorySink.{MemorySink}
use Rattle.mf_io.specs.Counts.{next_count, is_listed}

-- A put whose number is listed fails, and only such a one. Any other takes the smaller of the chunk and the piece's length.
-- Want of memory changes nothing.
abbrev pub PutsInMemory : List ℕ → MemorySink → MemorySink → Result ℕ PutFault → Type 0
PutsInMemory piece before after (Ok n) =
    (is_listed (next_count before.puts) before.failing ≡ false)
    × (n ≡ min before.chunk (length piece))
    × (after ≡ record before { puts = next_count before.puts; bytes = before.bytes ++ take n piece })
PutsInMemory piece before after (Err Failed) =
    (is_listed (next_count before.puts) before.failing ≡ true)
    × (after ≡ record before { puts = next_count before.puts; faults = next_count before.faults })
PutsInMemory piece before after (Err Memory) = after ≡ before
