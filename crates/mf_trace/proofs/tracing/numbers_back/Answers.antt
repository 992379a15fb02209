use Rattle.std.proofs.Common.{◌∙◌, arith}
use Rattle.std.proofs.lemmas.List.{append-nil}
use Rattle.mf_search.specs.Answers.{plan_to}
use Rattle.mf_task.specs.Histories.{world_of}
use Rattle.mf_task.specs.Successors.{space_of}
use Rattle.mf_trace.proofs.TraceLaws.{goal_within, parent_lower, trace_back, trace_end}
use Rattle.mf_trace.proofs.tracing.numbers_back.Goals as goal

pub loop-state-init : goal.loop-state-init
loop-state-init g c = record {
  within = goal_within g.N.Naming.case c.args.history.now c.as_slice-makers.result.now c.args.goal c.requires.history c.as_slice-makers.ensures c.requires.taken;
  traced = rw c.new-numbers.ensures (append-nil (plan_to (space_of g.N.Naming.case) (world_of g.N.Naming.case c.args.history.now).opened c.args.goal));
}

pub loop-state-smaller : goal.loop-state-smaller
loop-state-smaller g c =
    parent_lower g.N.Naming.case c.args.history.now c.as_slice-makers.result.now c.loop-state.state c.in-Step.parent c.in-Step.instance c.in-Step.helpful _ c.requires.history c.as_slice-makers.ensures c.loop-state.invariant.within c.in-Step.is

pub loop-state-preserved : goal.loop-state-preserved
loop-state-preserved g c = record {
  within = (let l = parent_lower g.N.Naming.case c.args.history.now c.as_slice-makers.result.now c.loop-state.state c.in-Step.parent c.in-Step.instance c.in-Step.helpful _ c.requires.history c.as_slice-makers.ensures c.loop-state.invariant.within c.in-Step.is in let w = c.loop-state.invariant.within in omega arith);
  traced = trace_back g.N.Naming.case c.args.history.now c.as_slice-makers.result.now c.loop-state.state c.in-Step.parent c.in-Step.instance c.in-Step.helpful _ c.loop-state.numbers c.push.new.self c.requires.history c.as_slice-makers.ensures c.loop-state.invariant.within c.in-Step.is c.in_ok-push.ensures.ok ∙ c.loop-state.invariant.traced;
}

pub returns : goal.returns
returns g c =
    trace_end g.N.Naming.case c.args.history.now c.as_slice-makers.result.now c.loop-state.state _ c.loop-state.numbers (plan_to (space_of g.N.Naming.case) (world_of g.N.Naming.case c.args.history.now).opened c.args.goal) c.requires.history c.as_slice-makers.ensures c.loop-state.invariant.within c.in_default.not-Step c.loop-state.invariant.traced
