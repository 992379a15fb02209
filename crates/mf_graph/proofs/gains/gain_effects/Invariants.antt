use Rattle.std.proofs.Common.{◌≡◌, drop}
use Rattle.std.specs.List.{fold}
use Rattle.mf_graph.specs.Gained.{with_effect}
use Rattle.mf_graph.specs.LayerLists.{shown}
use Rattle.mf_graph.proofs.gains.gain_effects.Given as goal

abbrev pub invariant-loop-effect : goal.invariant-loop-effect
invariant-loop-effect l =
    fold (with_effect l.task l.levels (shown l.layer)) l.gains (drop l.effect-index l.effects) ≡ fold (with_effect l.task l.levels (shown l.layer)) l.fn.gains l.effects
