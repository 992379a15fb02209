use Rattle.std.proofs.Common.{◌≡◌, ◌++◌, drop}
use Rattle.mf_types.specs.Names.{numbers_of}
use Rattle.mf_types.proofs.item_types.numbers_of.Given as goal

abbrev pub invariant-loop-word : goal.invariant-loop-word
invariant-loop-word l = l.out ++ numbers_of l.types (drop l.word-index l.words) ≡ numbers_of l.types l.words
