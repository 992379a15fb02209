use Rattle.std.proofs.Common.{◌≡◌, drop, length}
use Rattle.std.specs.List.{flat_map}
use Rattle.mf_model.specs.Objects.{ancestors, member, parents_of}
use Rattle.mf_ground.specs.Kinds.{kinds_of_object}
use Rattle.mf_ground.proofs.kinds.has_type.Given as goal

abbrev pub invariant-loop-declared : goal.invariant-loop-declared
invariant-loop-declared l =
    member l.wanted (flat_map (ancestors (parents_of l.task) (length l.task.types)) (drop l.declared-index l.object.types)) ≡ member l.wanted (kinds_of_object l.task l.object)
