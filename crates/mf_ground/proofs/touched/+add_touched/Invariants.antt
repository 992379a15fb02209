use Rattle.std.proofs.Common.{◌≡◌, drop, map}
use Rattle.std.specs.List.{flat_map}
use Rattle.mf_ground.specs.Statics.{touched_by, with_numbers}
use Rattle.mf_ground.proofs.touched.+add_touched.Given as goal

abbrev pub invariant-add_touched_parts-loop-part : goal.invariant-add_touched_parts-loop-part
invariant-add_touched_parts-loop-part l =
    with_numbers l.touched (flat_map (λ part. part) (map touched_by (drop l.part-index l.parts)))
    ≡ with_numbers l.fn.touched (flat_map (λ part. part) (map touched_by l.parts))
