use Rattle.std.proofs.Common.{◌≡◌, ◌+◌, ◌*◌, drop, map}
use Rattle.mf_reader.specs.Places.{expr_in}
use Rattle.mf_reader.specs.Said.{behind, each}
use Rattle.mf_reader.specs.Seen.{seen}
use Rattle.mf_reader.proofs.expressions.+expression.Given as goal

abbrev pub decreases-expression : goal.decreases-expression
decreases-expression l = 5 * goal.size-expression l

abbrev pub decreases-boxed : goal.decreases-boxed
decreases-boxed l = 5 * goal.size-boxed l + 1

abbrev pub decreases-expressions : goal.decreases-expressions
decreases-expressions l = 5 * goal.size-expressions l + 2

abbrev pub decreases-sum : goal.decreases-sum
decreases-sum l = 5 * goal.size-sum l + 3

abbrev pub decreases-product : goal.decreases-product
decreases-product l = 5 * goal.size-product l + 3

abbrev pub decreases-minus : goal.decreases-minus
decreases-minus l = 5 * goal.size-minus l + 3

abbrev pub decreases-quotient : goal.decreases-quotient
decreases-quotient l = 5 * goal.size-quotient l + 3

abbrev pub decreases-list_expression : goal.decreases-list_expression
decreases-list_expression l = 5 * goal.size-list_expression l + 4

abbrev pub invariant-expressions-loop-tree : goal.invariant-expressions-loop-tree
invariant-expressions-loop-tree l =
    behind l.out (each (expr_in l.place) (map seen (drop l.tree-index l.trees))) ≡ each (expr_in l.place) (map seen l.trees)
