-- The range of a form, from the bounds of its first terms on.
use Rattle.std.proofs.Common.{Bool, true, false, if◌then◌else◌, List, Option, Some, None}
use Rattle.std.specs.List.{fold, list_all}
use Rattle.mf_task.specs.declared.form.Part.{Part}
use Rattle.mf_task.specs.Layers.{Bound, Layer, Range, has_range, with_high, with_low}

abbrev pub range_on : Layer → Bound → Bound → List Part → Option Range
range_on layer low high parts =
    if list_all (λ p. has_range layer p.term) parts
    then Some (record { low = fold (with_low layer) low parts; high = fold (with_high layer) high parts })
    else None
