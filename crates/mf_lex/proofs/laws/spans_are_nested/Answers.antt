use Rattle.mf_lex.proofs.Places.{placed}
use Rattle.mf_lex.proofs.laws.spans_are_nested.Goals as goal

pub returns : goal.returns
returns c = λ source tree h. placed source tree h
