use Rattle.std.proofs.Common.{sym, ap, ◌∙◌}
use Rattle.mf_model.specs.declared.state.PlainState.{PlainState}
use Rattle.mf_model.specs.Application.{is_applicable}
use Rattle.mf_model.specs.Plans.{is_goal}
use Rattle.mf_model.specs.SearchStates.{with_costs}
use Rattle.mf_meaning.specs.SearchPlans.{next_search_state}
use Rattle.mf_meaning.proofs.SearchSteps.{applicable_alike, goal_alike, next_alike}
use Rattle.mf_meaning.proofs.search_states.search_states_are_enough.Goals as goal

pub returns-clause-goal : goal.returns-clause-goal
returns-clause-goal c task one other same =
    goal_alike task one ∙ ap (λ (s : PlainState). is_goal task (with_costs task s)) same ∙ sym (goal_alike task other)

pub returns-clause-applicable : goal.returns-clause-applicable
returns-clause-applicable c task one other instance same first second =
    applicable_alike task one instance first ∙ ap (λ (s : PlainState). is_applicable task (with_costs task s) instance) same ∙ sym (applicable_alike task other instance second)

pub returns-clause-next : goal.returns-clause-next
returns-clause-next c task one other instance same first second =
    next_alike task one instance first ∙ ap (λ (s : PlainState). next_search_state task s instance) same ∙ sym (next_alike task other instance second)
