use Rattle.mf_reader.proofs.CondReadings.{cond_reads}
use Rattle.mf_reader.proofs.LawForms.{read_at}
use Rattle.mf_reader.specs.GrammarConditions.{IsCond}
use Rattle.mf_reader.proofs.laws.conditions_are_read.Goals as goal

pub returns : goal.returns
returns c = read_at (λ s. s.cond) IsCond cond_reads
