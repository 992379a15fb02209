use Rattle.mf_search.proofs.Keeping.{least_closed, least_first, least_better, least_worse}
use Rattle.mf_search.proofs.columns.least_is_found.Goals as goal

pub returns-clause-closed : goal.returns-clause-closed
returns-clause-closed g c sp os taken n best h least = least_closed sp os taken n best h least

pub returns-clause-first : goal.returns-clause-first
returns-clause-first g c sp os taken n out least = least_first sp os taken n out least

pub returns-clause-better : goal.returns-clause-better
returns-clause-better g c sp os taken n i out key least = least_better sp os taken n i out key least

pub returns-clause-worse : goal.returns-clause-worse
returns-clause-worse g c sp os taken n i key least = least_worse sp os taken n i key least
