use Rattle.std.proofs.Common.{◌≡◌, ◌∙◌, ◌<◌, All, List, length, map, ap, subst, sym}
use Rattle.std.proofs.lemmas.List.{length-map}
use Rattle.mf_task.specs.declared.ground.GroundAction.{GroundAction}
use Rattle.mf_model.specs.LiveInstances.{live_instances}
use Rattle.mf_search.proofs.Answering.{plan_is_right}
use Rattle.mf_task.specs.Successors.{packed_of, space_of, start_in}
use Rattle.mf_bridge.proofs.ActionsMade.{live_actions}
use Rattle.mf_trace.specs.Traces.{numbers_to}
use Rattle.mf_trace.proofs.TraceLaws.{goal_leads, goal_numbers, reversed_numbered, traced_steps}
use Rattle.mf_trace.proofs.tracing.plan_of.Goals as goal

pub steps_back-requires : goal.steps_back-requires
steps_back-requires g c =
    goal_numbers g.N.Naming.case c.args.history.now c.in-Some.goal c.as_slice.result.now c.in_ok-numbers.numbers c.requires.history c.in-Some.ensures (c.as_slice.ensures ∙ ap (λ t. t.actions) c.requires.task) c.in_ok-numbers.ensures

pub returns : goal.returns
returns g c = record {
  goal = c.in-Some.goal;
  taken = c.in-Some.ensures;
  trace = traced_steps g.N.Naming.case c.args.history.now c.in-Some.goal c.as_slice.result.now c.in_ok-numbers.numbers c.in_ok-steps.steps (c.as_slice.ensures ∙ ap (λ t. t.actions) c.requires.task) c.in_ok-numbers.ensures c.in_ok-steps.ensures;
  leads = goal_leads g.N.Naming.case c.args.history.now c.in-Some.goal c.requires.history c.in-Some.ensures;
}
