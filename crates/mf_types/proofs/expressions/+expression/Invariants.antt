use Rattle.std.proofs.Common.{◌≡◌, ◌+◌, ◌*◌, ◌≤◌, max, drop, map}
use Rattle.mf_model.specs.declared.form.RawExpr.{size-RawExpr}
use Rattle.mf_types.specs.Expressions.{changing, part_faults, seen}
use Rattle.mf_types.specs.Faults.{after}
use Rattle.mf_types.specs.Sites.{site_of}
use Rattle.mf_types.proofs.expressions.+expression.Given as goal

abbrev pub decreases-expression : goal.decreases-expression
decreases-expression l = 10 * goal.size-expression l

abbrev pub decreases-expressions : goal.decreases-expressions
decreases-expressions l = 10 * goal.size-expressions l + 5

abbrev pub decreases-sum : goal.decreases-sum
decreases-sum l = 10 * goal.size-sum l + 6

abbrev pub decreases-product : goal.decreases-product
decreases-product l = 10 * goal.size-product l + 6

abbrev pub decreases-difference : goal.decreases-difference
decreases-difference l = 10 * max (size-RawExpr l.left.now) (size-RawExpr l.right.now) + 5

abbrev pub decreases-quotient : goal.decreases-quotient
decreases-quotient l = 10 * max (size-RawExpr l.left.now) (size-RawExpr l.right.now) + 5

abbrev pub invariant-expressions-loop-part : goal.invariant-expressions-loop-part
invariant-expressions-loop-part l = record {
  few : l.changing ≤ l.part-index;
  count : l.changing + changing (map (seen (site_of l.site)) (drop l.part-index l.parts)) ≡ changing (map (seen (site_of l.site)) l.parts);
  best : after l.best (part_faults (map (seen (site_of l.site)) (drop l.part-index l.parts)) l.scope) ≡ after l.fn.best (part_faults (map (seen (site_of l.site)) l.parts) l.scope);
}
