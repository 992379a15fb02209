use Rattle.std.proofs.Common.{Option, ℕ, subst, arith}
use Rattle.mf_plain.specs.UnderWay.{IsLeast}
use Rattle.mf_plain.proofs.LeastOpen.{least_skip, least_first, least_better, least_worse}
use Rattle.mf_plain.proofs.least.better_of.Goals as goal

pub returns-then-taken-state : goal.returns-then-taken-state
returns-then-taken-state c = least_skip c.args.values.now c.args.taken.now c.args.state c.args.best c.if-taken-state.true c.requires.before

pub returns-in-None : goal.returns-in-None
returns-in-None c =
    least_first c.args.values.now c.args.taken.now c.args.state c.if-taken-state.false
    (subst (λ (best : Option ℕ). IsLeast c.args.values.now c.args.taken.now c.args.state best) c.in-None.is c.requires.before)

pub returns-then-values-state : goal.returns-then-values-state
returns-then-values-state c =
    least_better c.args.values.now c.args.taken.now c.args.state c.in-Some.other c.if-taken-state.false c.if-values-state.true
    (subst (λ (best : Option ℕ). IsLeast c.args.values.now c.args.taken.now c.args.state best) c.in-Some.is c.requires.before)

pub returns-else-values-state : goal.returns-else-values-state
returns-else-values-state c =
    least_worse c.args.values.now c.args.taken.now c.args.state c.in-Some.other (let l = c.if-values-state.false in λ h. omega arith)
    (subst (λ (best : Option ℕ). IsLeast c.args.values.now c.args.taken.now c.args.state best) c.in-Some.is c.requires.before)
