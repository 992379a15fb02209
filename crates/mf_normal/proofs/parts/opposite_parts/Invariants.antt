use Rattle.std.proofs.Common.{◌≡◌, true, take, map}
use Rattle.mf_task.specs.LinearForms.{minus_one, scaled_part}
use Rattle.mf_normal.specs.FormParts.{are_narrow}
use Rattle.mf_normal.proofs.parts.opposite_parts.Given as goal

abbrev pub invariant-loop-part : goal.invariant-loop-part
invariant-loop-part l =
    (l.opposites ≡ map (scaled_part minus_one) (take l.part-index l.parts)) × (are_narrow l.opposites ≡ true)
