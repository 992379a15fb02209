use Rattle.mf_input.proofs.NameLemmas.{files_answer, domain_refused}
use Rattle.mf_input.proofs.read.read.Goals as goal

pub returns-in-Ok : goal.returns-in-Ok
returns-in-Ok c = files_answer c.args.domain.now c.args.problem.now c.in-Ok.domain c.read_problem.result c.in-Ok.ensures c.read_problem.ensures

pub returns-in-Err : goal.returns-in-Err
returns-in-Err c = rw c.file_refused.ensures (domain_refused c.args.domain.now c.args.problem.now c.in-Err.fault c.in-Err.ensures)
