use Rattle.std.proofs.Common.{sym, ◌∙◌, arith}
use Rattle.mf_store.proofs.Words.{value_of-none}
use Rattle.mf_store.proofs.word.packed.Goals as goal

pub returns-in-None-clause-value : goal.returns-in-None-clause-value
returns-in-None-clause-value c = value_of-none c.args.fractions.now.items 9223372036854775808 (omega arith) (omega arith) ∙ sym c.in-None.is
