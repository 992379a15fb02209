use Rattle.std.proofs.Common.{◌≡◌, ◌+◌, ◌≤◌, drop, map, length}
use Rattle.mf_model.specs.Objects.{having, kinds_of}
use Rattle.mf_ground.specs.Kinds.{kinds_of_object}
use Rattle.mf_ground.proofs.nodes.objects_having.Given as goal

abbrev pub invariant-loop-object : goal.invariant-loop-object
invariant-loop-object l = record {
  counted : l.found + length (having l.types l.object-index (map (kinds_of_object l.task) (drop l.object-index l.task.objects))) ≡ length (having l.types 0 (kinds_of l.task));
  bound : l.found ≤ l.object-index;
}
