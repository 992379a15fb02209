use Rattle.mf_reader.specs.Domains.{domain_of}
use Rattle.mf_reader.specs.GrammarFiles.{IsDomain, IsProblem}
use Rattle.mf_reader.specs.Problems.{problem_of}
use Rattle.mf_reader.proofs.DomainReadings.{domain_reads}
use Rattle.mf_reader.proofs.LawForms.{one_value}
use Rattle.mf_reader.proofs.ProblemReadings.{problem_reads}
use Rattle.mf_reader.proofs.laws.forms_are_unique.Goals as goal

pub returns-clause-domains : goal.returns-clause-domains
returns-clause-domains c = one_value domain_of IsDomain domain_reads

pub returns-clause-problems : goal.returns-clause-problems
returns-clause-problems c = one_value problem_of IsProblem problem_reads
