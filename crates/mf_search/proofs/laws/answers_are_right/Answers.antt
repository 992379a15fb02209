use Rattle.mf_search.proofs.Answering.{plan_is_right, no_plan_is_right, no_plan_is_closed, one_answer, one_status}
use Rattle.mf_search.proofs.laws.answers_are_right.Goals as goal

pub returns-clause-plan : goal.returns-clause-plan
returns-clause-plan g c sp budget workers entries i legal answer = plan_is_right sp budget workers entries i legal answer

pub returns-clause-no_plan : goal.returns-clause-no_plan
returns-clause-no_plan g c sp budget workers entries legal answer dead plan = no_plan_is_right sp budget workers entries legal answer dead plan

pub returns-clause-closed : goal.returns-clause-closed
returns-clause-closed g c sp budget workers entries legal answer = no_plan_is_closed sp budget workers entries legal answer

pub returns-clause-one_answer : goal.returns-clause-one_answer
returns-clause-one_answer g c budget w this that h k = one_answer budget w this that h k

pub returns-clause-one_status : goal.returns-clause-one_status
returns-clause-one_status g c budget w halted this that h k = one_status budget w halted this that h k
