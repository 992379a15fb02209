use Rattle.mf_meaning.proofs.SearchPlans.{same_live_plans}
use Rattle.mf_meaning.proofs.plans.plans_are_live_search_plans.Goals as goal

pub returns : goal.returns
returns c = same_live_plans
