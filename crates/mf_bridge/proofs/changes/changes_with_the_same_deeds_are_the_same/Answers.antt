use Rattle.mf_bridge.proofs.SameDeeds.{same_from_deeds}
use Rattle.mf_bridge.proofs.changes.changes_with_the_same_deeds_are_the_same.Goals as goal

pub returns : goal.returns
returns c = same_from_deeds
