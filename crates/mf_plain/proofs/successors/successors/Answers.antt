use Rattle.std.proofs.Common.{◌∙◌}
use Rattle.mf_plain.proofs.Applicable.{children_next}
use Rattle.std.specs.Option.{option_to_list}
use Rattle.mf_plain.proofs.successors.successors.Goals as goal

pub loop-number-preserved : goal.loop-number-preserved
loop-number-preserved c =
    children_next c.args.task.now c.args.state.now c.loop-number.number c.index-instances-number.result c.args.instances.now c.loop-number.list c.push_some.new.list (option_to_list c.in_ok-next.next)
    c.loop-number-test.true c.index-instances-number.is c.in_ok-next.ensures c.in_ok-push_some.ensures
    ∙ c.loop-number.invariant
