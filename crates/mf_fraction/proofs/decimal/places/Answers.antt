use Rattle.std.proofs.Common.{◌∙◌}
use Rattle.mf_fraction.proofs.Decimals.{places-zero, places-other}
use Rattle.mf_fraction.proofs.decimal.places.Goals as goal
use Rattle.mf_fraction.proofs.decimal.places.Goals.{then-digit-ne48, else-digit-ne48}

pub loop-i-preserved : goal.loop-i-preserved
loop-i-preserved c =
    elim c.if-digit-ne48.branch [
      | then-digit-ne48 w ↦ w.count-is ∙ places-other c.args.digits.now c.loop-i.i c.loop-i-test.true w.if-digit-ne48.true
      | else-digit-ne48 w ↦ w.count-is ∙ places-zero c.args.digits.now c.loop-i.i c.loop-i.count c.loop-i-test.true w.if-digit-ne48.false c.loop-i.invariant
    ]
