use Rattle.mf_store.specs.SameRows.{same_rows-Decides}
use Rattle.mf_store.proofs.laws.rows_are_compared.Goals as goal

pub returns : goal.returns
returns c = same_rows-Decides
