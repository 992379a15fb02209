use Rattle.std.proofs.Common.{◌∙◌, arith}
use Rattle.mf_model.proofs.Numbers.{numbers_before-all}
use Rattle.mf_plain.proofs.order.objects_before.Goals as goal

pub returns : goal.returns
returns c = numbers_before-all c.args.left.now c.args.right.now c.loop-i.i (omega arith) c.loop-i.invariant.within ∙ c.loop-i.invariant.rest
