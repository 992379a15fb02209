use Rattle.mf_bridge.proofs.FiredNames.{changes_are_listed}
use Rattle.mf_bridge.proofs.changes.changes_are_listed.Goals as goal

pub returns : goal.returns
returns c = changes_are_listed
