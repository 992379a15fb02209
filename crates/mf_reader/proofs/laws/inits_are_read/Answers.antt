use Rattle.mf_reader.proofs.InitReadings.{init_reads}
use Rattle.mf_reader.proofs.laws.inits_are_read.Goals as goal

pub returns : goal.returns
returns c = init_reads
