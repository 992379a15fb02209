use Rattle.std.proofs.Common.{◌≡◌, drop, map}
use Rattle.mf_model.specs.Plain.{all_true, is_plain_cond}
use Rattle.mf_plain.proofs.searchable.+is_plain_condition.Given as goal

abbrev pub decreases-is_plain_condition : goal.decreases-is_plain_condition
decreases-is_plain_condition l = goal.size-is_plain_condition l

abbrev pub invariant-loop-part : goal.invariant-loop-part
invariant-loop-part l =
    all_true (map (is_plain_cond l.predicates l.variables l.objects) (drop l.part-index l.part-items)) ≡ is_plain_cond l.predicates l.variables l.objects l.condition
