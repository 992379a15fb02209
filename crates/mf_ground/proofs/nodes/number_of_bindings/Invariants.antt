use Rattle.std.proofs.Common.{◌≡◌, ◌*◌, ◌-◌, ◌^◌, ◌≤◌, drop}
use Rattle.mf_model.specs.Objects.{kinds_of}
use Rattle.mf_ground.specs.Nodes.{ways}
use Rattle.mf_ground.specs.Saturated.{saturated}
use Rattle.mf_ground.proofs.nodes.number_of_bindings.Given as goal

abbrev pub invariant-loop-types : goal.invariant-loop-types
invariant-loop-types l = record {
  product : saturated (l.bindings * ways (kinds_of l.task) (drop l.types-index l.variables)) ≡ saturated (ways (kinds_of l.task) l.variables);
  bound : l.bindings ≤ 2 ^ 64 - 1;
}
