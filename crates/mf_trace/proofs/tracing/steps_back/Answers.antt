use Rattle.std.proofs.Common.{◌∙◌, length, map, sym, ap}
use Rattle.mf_task.specs.declared.ground.GroundAction.{GroundAction}
use Rattle.mf_trace.proofs.TraceLaws.{steps_more, numbered_last, instance_of}
use Rattle.mf_trace.proofs.tracing.steps_back.Goals as goal

pub loop-number-preserved : goal.loop-number-preserved
loop-number-preserved c =
    let last = numbered_last (length c.args.actions.now) c.pop.new.self c.loop-number.numbers c.in-Some.number c.loop-number.invariant.within c.in-Some.ensures in
    record {
      within = last.0;
      traced = steps_more (map (λ action. action.instance) c.args.actions.now) c.index-actions-number.result.instance c.in_ok-copy.field-0 c.loop-number.steps c.push.new.self c.pop.new.self c.loop-number.numbers c.in-Some.number
          (instance_of c.args.actions.now c.in-Some.number c.index-actions-number.result last.1 c.index-actions-number.is)
          (c.in_ok-copy.ensures ∙ ap (λ (action : GroundAction). action.instance) (sym c.index-actions-number.is)) c.in_ok-push.ensures.ok c.in-Some.ensures
          ∙ c.loop-number.invariant.traced;
    }
