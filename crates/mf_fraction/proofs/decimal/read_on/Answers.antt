use Rattle.std.proofs.Common.{arith}
use Rattle.mf_fraction.proofs.Decimals.{read_on-more, read_on-great, read_on-all}
use Rattle.mf_fraction.proofs.decimal.read_on.Goals as goal

pub loop-digit-preserved : goal.loop-digit-preserved
loop-digit-preserved c = record {
  small = omega arith;
  whole = read_on-more c.loop-digit.size _ c.args.digits.now c.loop-digit.digit-index _ c.loop-digit-test.true (omega arith) c.loop-digit.invariant.whole;
}

pub returns-then-size-gt-GREATEST : goal.returns-then-size-gt-GREATEST
returns-then-size-gt-GREATEST c =
    read_on-great _ _ _ c.if-size-gt-GREATEST.true (read_on-more c.loop-digit.size _ c.args.digits.now c.loop-digit.digit-index _ c.loop-digit-test.true (omega arith) c.loop-digit.invariant.whole)

pub returns : goal.returns
returns c =
    read_on-all c.loop-digit.size _ c.args.digits.now c.loop-digit.digit-index c.loop-digit-test.false c.loop-digit.invariant.small c.loop-digit.invariant.whole
