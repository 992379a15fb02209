use Rattle.std.proofs.Common.{◌≡◌, drop}
use Rattle.mf_types.specs.Gives.{with_front}
use Rattle.mf_types.specs.Tables.{declared_of}
use Rattle.mf_types.specs.Typing.{terms_of}
use Rattle.mf_types.proofs.building.leaves.terms.Given as goal

abbrev pub invariant-loop-word : goal.invariant-loop-word
invariant-loop-word l = with_front l.out (terms_of (declared_of l.tables) l.binders (drop l.word-index l.words)) ≡ terms_of (declared_of l.tables) l.binders l.words
