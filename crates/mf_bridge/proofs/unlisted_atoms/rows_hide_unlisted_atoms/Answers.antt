use Rattle.std.proofs.Common.{length, arith}
use Rattle.mf_task.specs.Grounding.{ground_of}
use Rattle.mf_bridge.proofs.unlisted_atoms.rows_hide_unlisted_atoms.Goals as goal

pub returns : goal.returns
returns c task instances row is = is.clear (length (ground_of task instances).atoms) (omega arith)
