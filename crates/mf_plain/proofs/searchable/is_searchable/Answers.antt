use Rattle.mf_plain.proofs.SearchTests.{test_decides}
use Rattle.mf_plain.proofs.searchable.is_searchable.Goals as goal

pub returns : goal.returns
returns c = rw c.passes.ensures (test_decides c.args.task.now)
