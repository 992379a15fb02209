use Rattle.mf_search.proofs.OneWorker.{takes_are_greedy, only_history}
use Rattle.mf_search.proofs.laws.one_worker.Goals as goal

pub returns-clause-greedy : goal.returns-clause-greedy
returns-clause-greedy g c sp budget entries legal = takes_are_greedy sp budget entries legal

pub returns-clause-only : goal.returns-clause-only
returns-clause-only g c sp budget these those h k ended also = only_history sp budget these those h k ended also
