use Rattle.mf_reader.proofs.FileOrder.{domain_in_order, problem_in_order}
use Rattle.mf_reader.proofs.laws.faults_stand_in_order.Goals as goal

pub returns-clause-domains : goal.returns-clause-domains
returns-clause-domains c = domain_in_order

pub returns-clause-problems : goal.returns-clause-problems
returns-clause-problems c = problem_in_order
