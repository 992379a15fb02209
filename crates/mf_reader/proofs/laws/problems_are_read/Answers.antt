use Rattle.mf_reader.proofs.ProblemReadings.{problem_reads}
use Rattle.mf_reader.proofs.laws.problems_are_read.Goals as goal

pub returns : goal.returns
returns c = problem_reads
