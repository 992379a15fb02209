use Rattle.std.proofs.Common.{◌≡◌, ◌+◌, ◌*◌, max, drop, map}
use Rattle.mf_model.specs.declared.form.RawCond.{size-RawCond}
use Rattle.mf_types.specs.Conditions.{all_faults, cond_faults}
use Rattle.mf_types.specs.Faults.{after}
use Rattle.mf_types.specs.Sites.{site_of}
use Rattle.mf_types.proofs.conditions.+condition.Given as goal

abbrev pub decreases-condition : goal.decreases-condition
decreases-condition l = 10 * goal.size-condition l

abbrev pub decreases-conditions : goal.decreases-conditions
decreases-conditions l = 10 * goal.size-conditions l + 5

abbrev pub decreases-implication : goal.decreases-implication
decreases-implication l = 10 * max (size-RawCond l.left.now) (size-RawCond l.right.now) + 5

abbrev pub decreases-quantifier : goal.decreases-quantifier
decreases-quantifier l = 10 * goal.size-quantifier l + 5

abbrev pub invariant-conditions-loop-part : goal.invariant-conditions-loop-part
invariant-conditions-loop-part l = record {
  value : after l.best (all_faults (map (cond_faults (site_of l.site)) (drop l.part-index l.parts)) l.fn.scope) ≡ after l.fn.best (all_faults (map (cond_faults (site_of l.site)) l.parts) l.fn.scope);
  same : l.scope ≡ l.fn.scope;
}
