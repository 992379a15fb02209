use Rattle.std.proofs.Common.{◌≡◌, drop, map}
use Rattle.mf_model.specs.Plain.{all_true, is_plain_effect}
use Rattle.mf_plain.proofs.searchable.+is_plain_effect.Given as goal

abbrev pub decreases-is_plain_effect : goal.decreases-is_plain_effect
decreases-is_plain_effect l = goal.size-is_plain_effect l

abbrev pub invariant-loop-part : goal.invariant-loop-part
invariant-loop-part l =
    all_true (map (is_plain_effect l.predicates l.variables l.objects) (drop l.part-index l.part-items)) ≡ is_plain_effect l.predicates l.variables l.objects l.effect
