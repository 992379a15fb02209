use Rattle.mf_reader.proofs.DomainReadings.{domain_reads}
use Rattle.mf_reader.proofs.laws.domains_are_read.Goals as goal

pub returns : goal.returns
returns c = domain_reads
