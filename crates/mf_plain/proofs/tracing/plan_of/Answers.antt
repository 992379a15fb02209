use Rattle.std.proofs.Common.{◌∙◌}
use Rattle.mf_model.specs.Application.{instances_of}
use Rattle.mf_search.specs.Answers.{plan_to}
use Rattle.mf_plain.specs.PlainSpace.{space_of}
use Rattle.mf_plain.specs.Searches.{world_of}
use Rattle.mf_plain.proofs.TraceLaws.{plan_traced, plan_numbered, reversed_numbered, steps_traced}
use Rattle.mf_plain.proofs.tracing.plan_of.Goals as goal

pub steps_back-requires : goal.steps_back-requires
steps_back-requires c =
    let s = c.requires.searched in
    reversed_numbered (instances_of c.args.task.now) c.as_slice.result.now (plan_to (space_of c.args.task.now) (world_of c.args.task.now c.args.searched.now.history).opened c.in-Plan.state) c.in_ok-numbers.numbers
    (c.as_slice.ensures ∙ c.in_ok-instances.ensures)
    (plan_numbered c.args.task.now s.0 c.args.searched.now c.in-Plan.state s.1 c.in-Plan.is)
    (c.in_ok-numbers.ensures c.args.task.now s.0 s.1)

pub returns : goal.returns
returns c =
    let s = c.requires.searched in
    plan_traced c.args.task.now s.0 c.args.searched.now c.in-Plan.state c.in_ok-steps.steps c.requires.searchable s.1 c.in-Plan.is
    (steps_traced (instances_of c.args.task.now) c.as_slice.result.now c.in_ok-steps.steps (plan_to (space_of c.args.task.now) (world_of c.args.task.now c.args.searched.now.history).opened c.in-Plan.state) c.in_ok-numbers.numbers
    (c.as_slice.ensures ∙ c.in_ok-instances.ensures) (c.in_ok-numbers.ensures c.args.task.now s.0 s.1) c.in_ok-steps.ensures)
