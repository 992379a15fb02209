use Rattle.mf_bridge.proofs.CoveredTerms.{goal_terms_covered, instance_terms_covered, start_terms_covered}
use Rattle.mf_bridge.proofs.coverage.terms_cover.Goals as goal

pub returns-clause-start : goal.returns-clause-start
returns-clause-start c = start_terms_covered

pub returns-clause-goal : goal.returns-clause-goal
returns-clause-goal c = goal_terms_covered

pub returns-clause-instance : goal.returns-clause-instance
returns-clause-instance c = instance_terms_covered
