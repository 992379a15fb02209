use Rattle.mf_search.proofs.Walking.{closed_has_no_goal}
use Rattle.mf_search.proofs.Answering.{no_plan_by_steps}
use Rattle.mf_search.proofs.reaching.no_steps_lead_to_a_goal.Goals as goal

pub returns-clause-closed : goal.returns-clause-closed
returns-clause-closed g c sp os closed covers plan = closed_has_no_goal sp os g.M.Moves.steps g.M.Moves.goal closed covers plan

pub returns-clause-no_plan : goal.returns-clause-no_plan
returns-clause-no_plan g c sp budget workers entries legal answer covers plan = no_plan_by_steps sp budget workers entries g.M.Moves.steps g.M.Moves.goal legal answer covers plan
