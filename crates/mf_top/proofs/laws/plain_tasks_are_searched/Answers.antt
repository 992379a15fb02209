use Rattle.mf_top.proofs.PlainLemmas.{plain_where_searched}
use Rattle.mf_top.proofs.laws.plain_tasks_are_searched.Goals as goal

pub returns : goal.returns
returns c = plain_where_searched
