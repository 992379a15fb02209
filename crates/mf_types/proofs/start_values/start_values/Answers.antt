use Rattle.mf_types.specs.Tables.{pointed}
use Rattle.mf_types.proofs.FirstValues.{values_more}
use Rattle.mf_types.proofs.start_values.start_values.Goals as goal

pub loop-value-preserved : goal.loop-value-preserved
loop-value-preserved c = record {
  terms = c.in_ok-best.ensures.terms;
  faults = values_more c.args.values.now c.loop-value.value-index c.value-item.result (pointed c.loop-value.firsts) (pointed c.repeated_at.new.firsts) c.loop-value.best c.in_ok-best.best c.wide_at-best.result _
      c.loop-value-test.true c.value-item.is c.in_ok-best.ensures.faults c.in_ok-best.ensures.firsts c.wide_at-best.ensures c.loop-value.invariant.faults;
}
