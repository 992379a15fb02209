use Rattle.mf_input.proofs.NameLemmas.{names_answer}
use Rattle.mf_input.proofs.read.read_names.Goals as goal

pub returns-in-Err : goal.returns-in-Err
returns-in-Err c = rw c.names_refused.ensures (names_answer c.args.domain.now c.args.problem.now c.in-Err.fault c.in-Err.ensures)
