use Rattle.mf_input.proofs.NameLemmas.{problem_answer, problem_refused}
use Rattle.mf_input.proofs.read.read_problem.Goals as goal

pub returns-in-Ok : goal.returns-in-Ok
returns-in-Ok c = problem_answer c.args.domain.now c.in-Ok.problem c.args.problem.now c.read_names.result c.in-Ok.ensures c.read_names.ensures

pub returns-in-Err : goal.returns-in-Err
returns-in-Err c = rw c.file_refused.ensures (problem_refused c.args.domain.now c.args.problem.now c.in-Err.fault c.in-Err.ensures)
