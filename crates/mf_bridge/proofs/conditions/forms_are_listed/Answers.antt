use Rattle.mf_bridge.proofs.ActionsMade.{form_of_number, goal_listed, condition_listed, effect_listed}
use Rattle.mf_bridge.proofs.conditions.forms_are_listed.Goals as goal

pub returns-clause-number : goal.returns-clause-number
returns-clause-number c = form_of_number

pub returns-clause-goal : goal.returns-clause-goal
returns-clause-goal c = goal_listed

pub returns-clause-condition : goal.returns-clause-condition
returns-clause-condition c = condition_listed

pub returns-clause-effect : goal.returns-clause-effect
returns-clause-effect c = effect_listed
