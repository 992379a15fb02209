use Rattle.std.proofs.Common.{◌≡◌, drop}
use Rattle.std.specs.List.{list_any}
use Rattle.mf_task.specs.Rows.{sight_of}
use Rattle.mf_task.specs.Width as spec
use Rattle.mf_state.proofs.width.is_effect_wide.Given as goal

abbrev pub invariant-loop-effect : goal.invariant-loop-effect
invariant-loop-effect l =
    list_any (λ effect. spec.is_wide_cond l.task (sight_of l.row) effect.condition) (drop l.effect-index l.effects) ≡ list_any (λ effect. spec.is_wide_cond l.task (sight_of l.row) effect.condition) l.effects
