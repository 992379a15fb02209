use Rattle.std.proofs.Common.{◌≡◌, ◌+◌, ◌*◌, take, map, sum}
use Rattle.mf_model.specs.Objects.{kinds_of}
use Rattle.mf_ground.specs.Nodes.{effect_nodes_of}
use Rattle.mf_ground.specs.Saturated.{saturated}
use Rattle.mf_ground.proofs.nodes.+nodes_of_effect.Given as goal

abbrev pub decreases-nodes_of_effect : goal.decreases-nodes_of_effect
decreases-nodes_of_effect l = 1000 * goal.size-nodes_of_effect l

abbrev pub decreases-nodes_of_each : goal.decreases-nodes_of_each
decreases-nodes_of_each l = 1000 * goal.size-nodes_of_each l + 1

abbrev pub decreases-nodes_of_effects : goal.decreases-nodes_of_effects
decreases-nodes_of_effects l = 1000 * goal.size-nodes_of_effects l + 500

abbrev pub invariant-nodes_of_effects-loop-part : goal.invariant-nodes_of_effects-loop-part
invariant-nodes_of_effects-loop-part l = l.nodes ≡ saturated (sum (map (effect_nodes_of (kinds_of l.task)) (take l.part-index l.parts)))
