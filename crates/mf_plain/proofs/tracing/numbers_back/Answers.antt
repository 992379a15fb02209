use Rattle.std.proofs.Common.{◌∙◌, arith}
use Rattle.std.proofs.lemmas.List.{append-nil}
use Rattle.mf_search.specs.Answers.{plan_to}
use Rattle.mf_plain.specs.PlainSpace.{space_of}
use Rattle.mf_plain.specs.Searches.{world_of}
use Rattle.mf_plain.proofs.TraceLaws.{goal_within, parent_lower, trace_back, trace_end}
use Rattle.mf_plain.proofs.tracing.numbers_back.Goals as goal

pub loop-state-init : goal.loop-state-init
loop-state-init c = record {
  within = (let s = c.requires.searched in goal_within s.0 s.1 c.args.searched.now c.as_slice-makers.result.now c.args.goal s.2 c.as_slice-makers.ensures c.requires.found);
  traced = λ task budget s. rw c.new-numbers.ensures (append-nil (plan_to (space_of task) (world_of task c.args.searched.now.history).opened c.args.goal));
}

pub loop-state-smaller : goal.loop-state-smaller
loop-state-smaller c = let s = c.requires.searched in
    parent_lower s.0 s.1 c.args.searched.now c.as_slice-makers.result.now c.loop-state.state c.in-Step.parent c.in-Step.instance c.in-Step.helpful _ s.2 c.as_slice-makers.ensures c.loop-state.invariant.within c.in-Step.is

pub loop-state-preserved : goal.loop-state-preserved
loop-state-preserved c = record {
  within = (let s = c.requires.searched in let l = parent_lower s.0 s.1 c.args.searched.now c.as_slice-makers.result.now c.loop-state.state c.in-Step.parent c.in-Step.instance c.in-Step.helpful _ s.2 c.as_slice-makers.ensures c.loop-state.invariant.within c.in-Step.is in let w = c.loop-state.invariant.within in omega arith);
  traced = λ task budget s. trace_back task budget c.args.searched.now c.as_slice-makers.result.now c.loop-state.state c.in-Step.parent c.in-Step.instance c.in-Step.helpful _ c.loop-state.numbers c.push.new.self s c.as_slice-makers.ensures c.loop-state.invariant.within c.in-Step.is c.in_ok-push.ensures.ok ∙ c.loop-state.invariant.traced task budget s;
}

pub returns : goal.returns
returns c task budget s =
    trace_end task budget c.args.searched.now c.as_slice-makers.result.now c.loop-state.state _ c.loop-state.numbers (plan_to (space_of task) (world_of task c.args.searched.now.history).opened c.args.goal) s c.as_slice-makers.ensures c.loop-state.invariant.within c.in_default.not-Step (c.loop-state.invariant.traced task budget s)
