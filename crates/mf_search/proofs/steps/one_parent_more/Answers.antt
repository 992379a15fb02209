use Rattle.mf_search.specs.World.{world}
use Rattle.mf_search.proofs.Fuel.{rebuilt_step, rebuilt_start, completed_step, completed_none, plan_step, plan_start, legal_parents}
use Rattle.mf_search.proofs.steps.one_parent_more.Goals as goal

pub returns-clause-run : goal.returns-clause-run
returns-clause-run g c sp budget workers entries i p n helpful legal h e = rebuilt_step sp (world sp entries).opened i p n helpful (legal_parents sp budget workers entries legal) h e

pub returns-clause-run_of_start : goal.returns-clause-run_of_start
returns-clause-run_of_start g c sp budget workers entries i legal h e = rebuilt_start sp (world sp entries).opened i (legal_parents sp budget workers entries legal) h e

pub returns-clause-candidate : goal.returns-clause-candidate
returns-clause-candidate g c sp os v run d e = completed_step sp os v run d e

pub returns-clause-no_candidate : goal.returns-clause-no_candidate
returns-clause-no_candidate g c sp os v run e = completed_none sp os v run e

pub returns-clause-plan : goal.returns-clause-plan
returns-clause-plan g c sp budget workers entries i p n helpful legal h e = plan_step sp (world sp entries).opened i p n helpful (legal_parents sp budget workers entries legal) h e

pub returns-clause-plan_of_start : goal.returns-clause-plan_of_start
returns-clause-plan_of_start g c sp budget workers entries i legal h e = plan_start sp (world sp entries).opened i (legal_parents sp budget workers entries legal) h e
