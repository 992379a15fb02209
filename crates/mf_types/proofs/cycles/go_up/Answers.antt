use Rattle.std.proofs.Common.{arith, sym, ◌∙◌}
use Rattle.mf_types.proofs.Settled.{walk_begins, walk_goes_on, climb_ends, climb_returns, climb_endless}
use Rattle.mf_types.proofs.cycles.go_up.Goals as goal

pub loop-steps-init : goal.loop-steps-init
loop-steps-init c = walk_begins c.args.parents.now c.args.settled.now.keys c.args.from

pub loop-steps-preserved : goal.loop-steps-preserved
loop-steps-preserved c =
    walk_goes_on c.args.parents.now c.args.settled.now.keys c.args.from c.loop-steps.steps c.loop-steps.current c.loop-steps.invariant
    c.number_at-current.result (sym c.is_end.ensures ∙ c.if-is_end.false) c.number_at-current.ensures c.if-current-from.false

pub returns-then-is_end : goal.returns-then-is_end
returns-then-is_end c = λ before settles.
    climb_ends c.args.parents.now c.args.settled.now.keys c.args.from c.loop-steps.steps c.loop-steps.current c.loop-steps.invariant
    before settles (sym c.is_end.ensures ∙ c.if-is_end.true)

pub returns-then-current-from : goal.returns-then-current-from
returns-then-current-from c = λ before settles.
    climb_returns c.args.parents.now c.args.settled.now.keys c.args.from c.loop-steps.steps c.loop-steps.current c.loop-steps.invariant
    before c.number_at-current.result settles (omega arith) (sym c.is_end.ensures ∙ c.if-is_end.false) c.number_at-current.ensures c.if-current-from.true

pub returns : goal.returns
returns c = λ before settles.
    climb_endless c.args.parents.now c.args.settled.now.keys c.args.from c.loop-steps.steps c.loop-steps.current c.loop-steps.invariant before (omega arith)
