use Rattle.mf_plain.proofs.Arguments.{next_made}
use Rattle.mf_plain.proofs.listing.list_next.Goals as goal

pub loop-object-preserved : goal.loop-object-preserved
loop-object-preserved c =
    next_made c.args.out.now c.loop-object.out c.push-in-loop-object.new.self c.args.front.now c.in_ok-arguments.arguments c.push.new.self c.loop-object.object
    c.loop-object.invariant c.in_ok-arguments.ensures c.in_ok-push.ensures.ok c.in_ok-push-2.ensures.ok
