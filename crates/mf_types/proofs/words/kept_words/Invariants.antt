use Rattle.std.proofs.Common.{◌≡◌, ◌++◌, drop}
use Rattle.mf_types.specs.Declarations.{item_words}
use Rattle.mf_types.specs.Names.{kept_types}
use Rattle.mf_types.specs.Tables.{pointed}
use Rattle.mf_types.proofs.words.kept_words.Given as goal

abbrev pub invariant-loop-item : goal.invariant-loop-item
invariant-loop-item l = pointed l.words.items ++ item_words (kept_types (drop l.item-index l.items)) ≡ item_words (kept_types l.items)
