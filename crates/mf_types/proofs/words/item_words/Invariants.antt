use Rattle.std.proofs.Common.{◌≡◌, take}
use Rattle.mf_types.specs.Declarations.{item_words}
use Rattle.mf_types.specs.Tables.{pointed}
use Rattle.mf_types.proofs.words.item_words.Given as goal

abbrev pub invariant-loop-item : goal.invariant-loop-item
invariant-loop-item l = pointed l.words.items ≡ item_words (take l.item-index l.items)
