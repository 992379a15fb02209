use Rattle.std.proofs.Common.{◌∙◌}
use Rattle.mf_plain.proofs.TraceLaws.{steps_more, numbered_last, instance_at}
use Rattle.mf_plain.proofs.tracing.steps_back.Goals as goal

pub loop-number-preserved : goal.loop-number-preserved
loop-number-preserved c =
    let last = numbered_last c.args.instances.now c.pop.new.self c.loop-number.numbers c.in-Some.number c.loop-number.invariant.within c.in-Some.ensures in
    record {
      within = last.0;
      traced = steps_more c.args.instances.now c.index-instances-number.result c.in_ok-copy.field-0 c.loop-number.steps c.push.new.self c.pop.new.self c.loop-number.numbers c.in-Some.number
          (instance_at c.args.instances.now c.in-Some.number c.index-instances-number.result last.1 c.index-instances-number.is)
          c.in_ok-copy.ensures c.in_ok-push.ensures.ok c.in-Some.ensures
          ∙ c.loop-number.invariant.traced;
    }
