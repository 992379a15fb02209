use Rattle.mf_lex.proofs.Unique.{no_fault}
use Rattle.std.proofs.Common.{arith}
use Rattle.mf_lex.proofs.laws.tokens_have_no_fault.Goals as goal

pub returns : goal.returns
returns c = λ source tokens at h. no_fault source 0 tokens h at (omega arith)
