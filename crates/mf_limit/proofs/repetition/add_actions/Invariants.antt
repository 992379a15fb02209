use Rattle.std.proofs.Common.{take}
use Rattle.std.specs.List.{flat_map}
use Rattle.mf_task.specs.LimitClosure.{action_gains}
use Rattle.mf_task.specs.Rows.{sight_of}
use Rattle.mf_limit.specs.Growth.{Grows}
use Rattle.mf_limit.proofs.repetition.add_actions.Given as goal

abbrev pub invariant-loop-action : goal.invariant-loop-action
invariant-loop-action l = Grows l.fn.sets l.sets (λ f. flat_map (action_gains l.scene.task.now (sight_of l.scene.row.now) f) (take l.action-index l.actions)) l.is_new
