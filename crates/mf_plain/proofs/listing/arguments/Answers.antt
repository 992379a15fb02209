use Rattle.std.proofs.Common.{sym, ◌∙◌, arith}
use Rattle.mf_model.specs.Objects.{kinds_of}
use Rattle.mf_plain.proofs.Arguments.{arguments_next, arguments_begin, arguments_last}
use Rattle.mf_plain.proofs.listing.arguments.Goals as goal

pub loop-types-init : goal.loop-types-init
loop-types-init c = arguments_begin (kinds_of c.args.task.now) c.args.parameters.now c.push.new.self c.new-fronts.result c.new.result c.new-fronts.ensures c.new.ensures c.in_ok-push.ensures.ok

pub loop-types-preserved : goal.loop-types-preserved
loop-types-preserved c =
    arguments_next c.args.task.now c.args.parameters.now c._types-item.result c.loop-types._types-index c.len-count.result c.loop-types.fronts c.as_slice.result.now c.in_ok-fronts.fronts
    c.requires.objects c.requires.types c.loop-types-test.true c._types-item.is c.len-count.ensures c.as_slice.ensures c.in_ok-fronts.ensures
    ∙ c.loop-types.invariant

pub returns : goal.returns
returns c = sym (arguments_last (kinds_of c.args.task.now) c.args.parameters.now c.loop-types._types-index c.loop-types.fronts (omega arith)) ∙ c.loop-types.invariant
