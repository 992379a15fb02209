use Rattle.mf_types.proofs.Order.{least_of_all, none_of_all}
use Rattle.mf_types.proofs.laws.least_is_answered.Goals as goal

pub returns-clause-least : goal.returns-clause-least
returns-clause-least c = least_of_all

pub returns-clause-none : goal.returns-clause-none
returns-clause-none c = none_of_all
