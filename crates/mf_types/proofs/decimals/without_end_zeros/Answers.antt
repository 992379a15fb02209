use Rattle.std.proofs.Common.{◌∙◌, arith}
use Rattle.mf_types.proofs.EndZeros.{end_other, end_zero}
use Rattle.mf_types.proofs.decimals.without_end_zeros.Goals as goal

pub returns-then-last-ne48 : goal.returns-then-last-ne48
returns-then-last-ne48 c = end_other c.loop-left.left.now (omega arith) c.if-last-ne48.true ∙ c.loop-left.invariant

pub loop-left-preserved : goal.loop-left-preserved
loop-left-preserved c = end_zero c.loop-left.left.now (omega arith) c.if-last-ne48.false ∙ c.loop-left.invariant
