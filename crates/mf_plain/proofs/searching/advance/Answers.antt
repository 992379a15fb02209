use Rattle.std.proofs.Common.{◌∙◌, sym, ap, get_or, List, ℕ}
use Rattle.mf_plain.proofs.Advancing.{at_end, after_goal, after_step}
use Rattle.mf_plain.proofs.searching.advance.Goals as goal

pub returns-in_default : goal.returns-in_default
returns-in_default c budget takes room u = at_end c.args.task.now budget takes c.args.progress.now u c.in_default.ensures

pub returns-then-is_goal : goal.returns-then-is_goal
returns-then-is_goal c budget takes room u =
    after_goal c.args.task.now budget takes c.args.progress.now c.take.new.progress c.in-Some.state u room c.in-Some.ensures
    (ap (λ (xs : List ℕ). get_or xs c.in-Some.state 0) (sym c.as_slice.ensures) ∙ c.if-is_goal.true)
    c.in_ok-take.ensures.history

pub returns : goal.returns
returns c budget takes room u =
    after_step c.args.task.now budget takes c.args.progress.now c.take.new.progress c.expand.new.progress c.in-Some.state u room c.in-Some.ensures
    (λ e. c.if-is_goal.false (ap (λ (xs : List ℕ). get_or xs c.in-Some.state 0) c.as_slice.ensures ∙ e))
    c.in_ok-take.ensures.history c.in_ok-take.ensures.taken c.in_ok-expand.ensures.entries c.in_ok-expand.ensures.opened
