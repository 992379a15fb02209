use Rattle.std.proofs.Common.{◌∙◌, sym, ap, List, arith}
use Rattle.mf_model.specs.declared.task.Action.{Action}
use Rattle.mf_model.specs.Application.{instances_from}
use Rattle.mf_model.specs.Objects.{kinds_of}
use Rattle.mf_plain.proofs.Arguments.{listed_parameters, instances_next, instances_end}
use Rattle.mf_plain.proofs.listing.instances.Goals as goal

pub arguments-requires-clause-types : goal.arguments-requires-clause-types
arguments-requires-clause-types c =
    listed_parameters c.args.task.now c.as_slice-action-items.result.now c.action-item.result c.as_slice.result.now c.loop-number.number c.requires.searchable c.as_slice-action-items.ensures c.loop-number-test.true c.action-item.is c.as_slice.ensures

pub loop-number-preserved : goal.loop-number-preserved
loop-number-preserved c =
    instances_next (kinds_of c.args.task.now) c.as_slice-action-items.result.now c.action-item.result c.as_slice.result.now c.loop-number.number c.loop-number.out c.list_action.new.out c.in_ok-fronts.fronts
    c.loop-number-test.true c.action-item.is c.as_slice.ensures c.in_ok-fronts.ensures c.in_ok-list_action.ensures
    ∙ c.loop-number.invariant

pub returns : goal.returns
returns c =
    sym (instances_end (kinds_of c.args.task.now) c.as_slice-action-items.result.now c.loop-number.number c.loop-number.out (omega arith))
    ∙ c.loop-number.invariant ∙ ap (λ (xs : List Action). instances_from (kinds_of c.args.task.now) 0 xs) c.as_slice-action-items.ensures
