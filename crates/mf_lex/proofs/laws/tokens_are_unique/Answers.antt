use Rattle.mf_lex.proofs.Unique.{unique}
use Rattle.mf_lex.proofs.laws.tokens_are_unique.Goals as goal

pub returns : goal.returns
returns c = λ source left right h k. unique source left right h k
