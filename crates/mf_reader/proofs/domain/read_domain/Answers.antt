use Rattle.mf_reader.specs.Domains.{domain_of}
use Rattle.mf_reader.specs.GrammarFiles.{IsDomain}
use Rattle.mf_reader.proofs.FileLaws.{form_of, only_of, least_fault}
use Rattle.mf_reader.proofs.FileOrder.{domain_in_order}
use Rattle.mf_reader.proofs.DomainReadings.{domain_reads}
use Rattle.mf_reader.proofs.domain.read_domain.Goals as goal

pub returns-clause-form : goal.returns-clause-form
returns-clause-form c = form_of domain_of IsDomain domain_reads c.args.tree.now c.domain_of.result c.domain_of.ensures

pub returns-clause-only : goal.returns-clause-only
returns-clause-only c = only_of domain_of IsDomain domain_reads c.args.tree.now c.domain_of.result c.domain_of.ensures

pub returns-clause-least : goal.returns-clause-least
returns-clause-least c = λ placed. least_fault (domain_of c.args.tree.now) c.domain_of.result (domain_in_order c.args.tree.now placed) c.domain_of.ensures
