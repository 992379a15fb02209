use Rattle.std.proofs.Common.{◌≡◌, ℕ, arith, subst}
use Rattle.mf_types.specs.Ascent.{SettlesMore}
use Rattle.mf_types.proofs.Settled.{settling_begins, settling_goes_on}
use Rattle.mf_types.proofs.cycles.settle.Goals as goal

pub loop-step-init : goal.loop-step-init
loop-step-init c = settling_begins c.args.parents.now c.args.settled.now.keys c.add.new.settled.keys c.args.from c.in_ok-add.ensures

pub loop-step-preserved : goal.loop-step-preserved
loop-step-preserved c =
    settling_goes_on c.args.parents.now c.args.settled.now.keys c.loop-step.settled.keys c.add-in-loop-step.new.settled.keys c.args.from c.loop-step._step c.loop-step.current c.number_at-current.result
    c.loop-step.invariant c.number_at-current.ensures c.in_ok-add-2.ensures

pub returns : goal.returns
returns c =
    let all : c.loop-step._step ≡ c.args.steps = omega arith in
    subst (λ (n : ℕ). SettlesMore c.args.parents.now c.args.from n c.args.settled.now.keys c.loop-step.settled.keys) all c.loop-step.invariant.more
