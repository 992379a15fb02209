use Rattle.std.proofs.Common.{◌≡◌, take, drop, map}
use Rattle.mf_task.specs.LinearForms.{scaled_part}
use Rattle.mf_normal.specs.FormParts.{are_narrow}
use Rattle.mf_normal.proofs.parts.scaled_parts.Given as goal

abbrev pub invariant-loop-part : goal.invariant-loop-part
invariant-loop-part l =
    (l.scaled ≡ map (scaled_part l.factor) (take l.part-index l.parts))
    × (are_narrow (map (scaled_part l.factor) (drop l.part-index l.parts)) ≡ are_narrow (map (scaled_part l.factor) l.parts))
