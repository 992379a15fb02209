use Rattle.mf_search.proofs.OneWorker.{takes_are_greedy}
use Rattle.mf_plain.specs.PlainSpace.{space_of}
use Rattle.mf_plain.proofs.laws.takes_are_greedy.Goals as goal

pub returns : goal.returns
returns c task budget searched s = takes_are_greedy (space_of task) budget searched.history.entries s.legal
