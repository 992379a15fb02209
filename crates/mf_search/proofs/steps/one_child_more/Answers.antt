use Rattle.mf_search.proofs.OneStep.{open_more, child_known, child_infinite, child_new}
use Rattle.mf_search.proofs.Opening.{opens_all, open_after}
use Rattle.mf_search.proofs.steps.one_child_more.Goals as goal

pub returns-clause-child : goal.returns-clause-child
returns-clause-child g c sp p cs d os = open_more sp p cs d os

pub returns-clause-known : goal.returns-clause-known
returns-clause-known g c sp p d os h = child_known sp p d os h

pub returns-clause-infinite : goal.returns-clause-infinite
returns-clause-infinite g c sp p d os e = child_infinite sp p d os e

pub returns-clause-new : goal.returns-clause-new
returns-clause-new g c sp p d os v h e = child_new sp p d os v h e

pub returns-clause-after : goal.returns-clause-after
returns-clause-after g c sp p cs os = open_after sp p cs os

pub returns-clause-longer : goal.returns-clause-longer
returns-clause-longer g c sp p cs os = (opens_all sp p cs os).extends.longer

pub returns-clause-earlier : goal.returns-clause-earlier
returns-clause-earlier g c sp p cs os i low = (opens_all sp p cs os).extends.same i low
