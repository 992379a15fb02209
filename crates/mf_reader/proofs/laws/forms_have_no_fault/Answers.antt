use Rattle.mf_reader.specs.Domains.{domain_of}
use Rattle.mf_reader.specs.GrammarFiles.{IsDomain, IsProblem}
use Rattle.mf_reader.specs.Problems.{problem_of}
use Rattle.mf_reader.proofs.DomainReadings.{domain_reads}
use Rattle.mf_reader.proofs.LawForms.{no_fault}
use Rattle.mf_reader.proofs.ProblemReadings.{problem_reads}
use Rattle.mf_reader.proofs.laws.forms_have_no_fault.Goals as goal

pub returns-clause-domains : goal.returns-clause-domains
returns-clause-domains c = no_fault domain_of IsDomain domain_reads

pub returns-clause-problems : goal.returns-clause-problems
returns-clause-problems c = no_fault problem_of IsProblem problem_reads
