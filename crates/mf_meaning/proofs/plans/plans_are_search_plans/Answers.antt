use Rattle.mf_meaning.proofs.SearchPlans.{same_plans, same_plans_from}
use Rattle.mf_meaning.proofs.plans.plans_are_search_plans.Goals as goal

pub returns-clause-start : goal.returns-clause-start
returns-clause-start c = same_plans

pub returns-clause-from : goal.returns-clause-from
returns-clause-from c = same_plans_from
