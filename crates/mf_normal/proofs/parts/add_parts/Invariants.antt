use Rattle.std.proofs.Common.{◌≡◌, true, drop}
use Rattle.mf_task.specs.LinearForms.{with_parts}
use Rattle.mf_normal.specs.FormParts.{IsRising, are_narrow}
use Rattle.mf_normal.proofs.parts.add_parts.Given as goal

abbrev pub invariant-loop-part : goal.invariant-loop-part
invariant-loop-part l =
    (with_parts l.parts (drop l.part-index l.more) ≡ with_parts l.fn.parts l.more) × IsRising l.parts × (are_narrow l.parts ≡ true)
