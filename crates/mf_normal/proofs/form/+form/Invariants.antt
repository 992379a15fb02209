use Rattle.std.proofs.Common.{◌≡◌, true, drop, map, IfSome}
use Rattle.mf_task.specs.WideForms.{combined_formed, formed_of, joined_formed}
use Rattle.mf_normal.specs.FormsMade.{IsKept, join_of, unit_of}
use Rattle.mf_normal.specs.Lookups.{functions_seen}
use Rattle.mf_normal.proofs.form.+form.Given as goal

abbrev pub invariant-fold-loop-part : goal.invariant-fold-loop-part
invariant-fold-loop-part l =
    (combined_formed (join_of l.operation) (record { form = l.front; fits = true }) (map (λ part. part l.binding) (map (formed_of (functions_seen l.lookup)) (drop l.part-index l.others)))
    ≡ joined_formed (unit_of l.operation) (join_of l.operation) (map (λ part. part l.binding) (map (formed_of (functions_seen l.lookup)) l.fn.parts)))
    × IfSome l.front IsKept
