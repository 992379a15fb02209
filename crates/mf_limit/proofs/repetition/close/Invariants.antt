use Rattle.mf_task.specs.Rows.{sight_of}
use Rattle.mf_limit.proofs.Closing.{IsUnderway}
use Rattle.mf_limit.proofs.repetition.close.Given as goal

abbrev pub invariant-loop-round : goal.invariant-loop-round
invariant-loop-round l = IsUnderway l.scene.task.now (sight_of l.scene.row.now) l._round l.sets
