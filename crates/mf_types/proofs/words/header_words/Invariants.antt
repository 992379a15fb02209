use Rattle.std.proofs.Common.{◌≡◌, take}
use Rattle.mf_types.specs.Declarations.{header_words}
use Rattle.mf_types.specs.Tables.{pointed}
use Rattle.mf_types.proofs.words.header_words.Given as goal

abbrev pub invariant-loop-header : goal.invariant-loop-header
invariant-loop-header l = pointed l.words.items ≡ header_words (take l.header-index l.headers)
