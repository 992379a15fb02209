use Rattle.std.proofs.Common.{take}
use Rattle.std.specs.List.{flat_map}
use Rattle.mf_task.specs.LimitClosure.{effect_gains}
use Rattle.mf_task.specs.Rows.{sight_of}
use Rattle.mf_limit.specs.Growth.{Grows}
use Rattle.mf_limit.proofs.repetition.add_effects.Given as goal

abbrev pub invariant-loop-effect : goal.invariant-loop-effect
invariant-loop-effect l = Grows l.fn.sets l.sets (λ f. flat_map (effect_gains l.scene.task.now (sight_of l.scene.row.now) f) (take l.effect-index l.effects)) l.is_new
