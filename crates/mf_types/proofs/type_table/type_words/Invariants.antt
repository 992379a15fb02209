use Rattle.std.proofs.Common.{◌≡◌, ◌++◌, length}
use Rattle.mf_types.specs.Names.{type_words}
use Rattle.mf_types.specs.Tables.{pointed}
use Rattle.mf_types.proofs.type_table.type_words.Given as goal

abbrev pub invariant-loop-left : goal.invariant-loop-left
invariant-loop-left l = pointed l.words.items ++ type_words l.left ≡ type_words l.fn.items

abbrev pub decreases-loop-left : goal.decreases-loop-left
decreases-loop-left l = length l.left
