use Rattle.std.proofs.Common.{refl}
use Rattle.mf_trace.proofs.LastEntries.{goal_by_last, last_within, no_goal_by_last, not_true, other_by_last}
use Rattle.mf_trace.proofs.tracing.taken_goal.Goals as goal

pub returns-in_default-last : goal.returns-in_default-last
returns-in_default-last g c = no_goal_by_last g.N.Naming.case c.args.history.now c.as_slice.result.now c.in-Some.last.now c.requires c.as_slice.ensures c.in-Some.ensures.value (λ worker i e. absurd (c.in_default-last.not-Take worker i e))

pub is_zero_at-requires : goal.is_zero_at-requires
is_zero_at-requires g c = last_within g.N.Naming.case c.args.history.now c.as_slice.result.now c.as_slice-2.result.now c.in-Some.last.now c.in-Take.worker c.in-Take.state c.requires c.as_slice.ensures c.as_slice-2.ensures c.in-Some.ensures.value c.in-Take.is

pub returns-then-is_zero_at : goal.returns-then-is_zero_at
returns-then-is_zero_at g c = goal_by_last g.N.Naming.case c.args.history.now c.as_slice.result.now c.as_slice-2.result.now c.in-Some.last.now c.in-Take.worker c.in-Take.state c.requires c.as_slice.ensures c.as_slice-2.ensures c.in-Some.ensures.value c.in-Take.is (c.if-is_zero_at.ensures.0 refl)

pub returns-else-is_zero_at : goal.returns-else-is_zero_at
returns-else-is_zero_at g c = other_by_last g.N.Naming.case c.args.history.now c.as_slice.result.now c.as_slice-2.result.now c.in-Some.last.now c.in-Take.worker c.in-Take.state c.requires c.as_slice.ensures c.as_slice-2.ensures c.in-Some.ensures.value c.in-Take.is (λ z. not_true (c.if-is_zero_at.ensures.1 z))
