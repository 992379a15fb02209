use Rattle.mf_plain.proofs.Lawful.{one_search}
use Rattle.mf_plain.proofs.laws.only_one_search.Goals as goal

pub returns : goal.returns
returns c = one_search
