use Rattle.mf_reader.proofs.DeclReadings.{predicates_read, functions_read}
use Rattle.mf_reader.proofs.laws.declarations_are_read.Goals as goal

pub returns-clause-predicates : goal.returns-clause-predicates
returns-clause-predicates c = predicates_read

pub returns-clause-functions : goal.returns-clause-functions
returns-clause-functions c = functions_read
