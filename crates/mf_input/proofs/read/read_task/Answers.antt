use Rattle.mf_input.proofs.ResolvedFiles.{read_resolved}
use Rattle.mf_input.proofs.read.read_task.Goals as goal

pub returns-clause-resolved : goal.returns-clause-resolved
returns-clause-resolved c = read_resolved c.args.domain.now c.args.problem.now c.read.result c.read.ensures
