use Rattle.std.proofs.Common.{◌≡◌, ℕ, ◌+◌, ◌≤◌, List, Option, Some, length, slice_get, subst, sym, ◌∙◌, ap}
use Rattle.mf_model.specs.declared.task.Action.{Action}
use Rattle.mf_model.specs.VariableScopes.{action_scope_of}
use Rattle.mf_eval.proofs.InstanceLemmas.{binds_few}
use Rattle.mf_eval.specs.Outcome.{Gives, outcome_for}
use Rattle.mf_eval.proofs.applying.apply.Goals as goal

-- an instance binds no more variables than its action
pub apply_action-requires-clause-variables : goal.apply_action-requires-clause-variables
apply_action-requires-clause-variables c =
    let task = c.args.task.now in
    let instance = c.args.instance.now in
    let found : Some c.in-Some.action.now ≡ slice_get task.actions instance.action = c.in-Some.ensures.value ∙ ap (slice_get task.actions) c.from.ensures in
    rw c.as_slice.ensures (subst (λ (action : Option Action). length instance.objects + action_scope_of action ≤ 64) (sym found)
    (binds_few task instance c.requires.resolved.limits.variables c.requires.step))

pub returns-clause-outcome : goal.returns-clause-outcome
returns-clause-outcome c =
    let task = c.args.task.now in
    let state = c.args.state.now in
    subst (λ outcome. Gives outcome c.apply_action.result)
    (ap (λ (objects : List ℕ). outcome_for task state objects (Some c.in-Some.action.now)) c.as_slice.ensures
    ∙ ap (λ (action : Option Action). outcome_for task state c.args.instance.now.objects action) (c.in-Some.ensures.value ∙ ap (slice_get task.actions) c.from.ensures))
    c.apply_action.ensures.outcome
