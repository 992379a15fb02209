use Rattle.std.proofs.Common.{◌∙◌}
use Rattle.mf_fraction.proofs.DecimalValues.{size_none, size_some}
use Rattle.mf_fraction.proofs.decimal.size.Goals as goal

pub returns-in_err-start : goal.returns-in_err-start
returns-in_err-start c = c.from_residual.ensures ∙ size_none c.args.front.now c.args.back.now c.in_err-start.ensures

pub returns : goal.returns
returns c = size_some c.args.front.now c.args.back.now c.in_ok-start.start c.read_on-2.result c.in_ok-start.ensures c.read_on-2.ensures
