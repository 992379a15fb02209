use Rattle.std.proofs.Common.{◌≡◌, ◌+◌, ◌*◌, take, map, sum}
use Rattle.mf_model.specs.Objects.{kinds_of}
use Rattle.mf_ground.specs.Nodes.{nodes_of}
use Rattle.mf_ground.specs.Saturated.{saturated}
use Rattle.mf_ground.proofs.nodes.+nodes_of_condition.Given as goal

abbrev pub decreases-nodes_of_condition : goal.decreases-nodes_of_condition
decreases-nodes_of_condition l = 1000 * goal.size-nodes_of_condition l

abbrev pub decreases-nodes_of_quantifier : goal.decreases-nodes_of_quantifier
decreases-nodes_of_quantifier l = 1000 * goal.size-nodes_of_quantifier l + 1

abbrev pub decreases-nodes_of_parts : goal.decreases-nodes_of_parts
decreases-nodes_of_parts l = 1000 * goal.size-nodes_of_parts l + 500

abbrev pub invariant-nodes_of_parts-loop-part : goal.invariant-nodes_of_parts-loop-part
invariant-nodes_of_parts-loop-part l = l.nodes ≡ saturated (sum (map (nodes_of (kinds_of l.task)) (take l.part-index l.parts)))
