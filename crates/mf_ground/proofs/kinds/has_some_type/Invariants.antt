use Rattle.std.proofs.Common.{◌≡◌, drop}
use Rattle.mf_model.specs.Objects.{meets}
use Rattle.mf_ground.specs.Kinds.{kinds_of_object}
use Rattle.mf_ground.proofs.kinds.has_some_type.Given as goal

abbrev pub invariant-loop-wanted : goal.invariant-loop-wanted
invariant-loop-wanted l =
    meets (drop l.wanted-index l.types) (kinds_of_object l.task l.object) ≡ meets l.types (kinds_of_object l.task l.object)
