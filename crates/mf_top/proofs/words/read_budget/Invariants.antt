use Rattle.std.proofs.Common.{◌≡◌, ◌≤◌, drop}
use Rattle.mf_top.specs.Words.{in_range, number_after, greatest_budget}
use Rattle.mf_top.proofs.words.read_budget.Given as goal

abbrev pub invariant-loop-byte : goal.invariant-loop-byte
invariant-loop-byte l =
    (l.number ≤ greatest_budget) × (in_range (number_after l.number (drop l.byte-index l.word)) ≡ in_range (number_after 0 l.word))
