use Rattle.mf_search.proofs.Answering.{busy_runs, open_runs}
use Rattle.mf_search.proofs.steps.running_is_not_ended.Goals as goal

pub returns-clause-busy : goal.returns-clause-busy
returns-clause-busy g c budget w worker i going held ended = busy_runs budget w worker i going held ended.0 ended.1

pub returns-clause-open_left : goal.returns-clause-open_left
returns-clause-open_left g c budget w i going left low ended = open_runs budget w i going left low ended.0 ended.1
