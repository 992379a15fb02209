use Rattle.std.proofs.Common.{◌≡◌, ◌++◌, drop}
use Rattle.mf_types.specs.Tables.{pointed}
use Rattle.mf_types.proofs.type_table.add_parents.Given as goal

abbrev pub invariant-loop-word : goal.invariant-loop-word
invariant-loop-word l = pointed l.words.items ++ drop l.word-index l.word-items ≡ pointed l.fn.words.items ++ l.fn.item.types
