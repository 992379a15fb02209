use Rattle.mf_plain.proofs.Applicable.{simple_action, child_none, child_some}
use Rattle.mf_plain.proofs.successors.child_by.Goals as goal

pub holds-requires : goal.holds-requires
holds-requires c = (simple_action c.args.task.now c.args.instance.now.action c.in-Some.action.now c.requires c.in-Some.ensures.value).condition

pub returns-then-not-holds : goal.returns-then-not-holds
returns-then-not-holds c =
    child_none c.args.task.now c.args.state.now c.args.number c.args.instance.now c.in-Some.action.now c.as_slice.result.now c.as_slice-arguments.result.now
    (simple_action c.args.task.now c.args.instance.now.action c.in-Some.action.now c.requires c.in-Some.ensures.value)
    c.in-Some.ensures.value c.as_slice.ensures c.as_slice-arguments.ensures c.if-not-holds.ensures

pub after_effect-requires : goal.after_effect-requires
after_effect-requires c = (simple_action c.args.task.now c.args.instance.now.action c.in-Some.action.now c.requires c.in-Some.ensures.value).effect

pub returns : goal.returns
returns c =
    child_some c.args.task.now c.args.state.now c.in_ok-next.next c.args.number c.args.instance.now c.in-Some.action.now c.as_slice.result.now c.as_slice-arguments.result.now
    (simple_action c.args.task.now c.args.instance.now.action c.in-Some.action.now c.requires c.in-Some.ensures.value)
    c.in-Some.ensures.value c.as_slice.ensures c.as_slice-arguments.ensures c.if-not-holds.ensures c.in_ok-next.ensures
