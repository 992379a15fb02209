use Rattle.mf_lex.proofs.Whole.{unique_tree}
use Rattle.mf_lex.proofs.laws.tree_is_unique.Goals as goal

pub returns : goal.returns
returns c = λ source left right h k. unique_tree source left right h k
