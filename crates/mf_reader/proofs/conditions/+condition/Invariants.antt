use Rattle.std.proofs.Common.{◌≡◌, ◌+◌, ◌*◌, drop, map}
use Rattle.mf_reader.specs.Said.{behind, each}
use Rattle.mf_reader.specs.Seen.{seen}
use Rattle.mf_reader.proofs.conditions.+condition.Given as goal

abbrev pub decreases-condition : goal.decreases-condition
decreases-condition l = 6 * goal.size-condition l

abbrev pub decreases-boxed : goal.decreases-boxed
decreases-boxed l = 6 * goal.size-boxed l + 1

abbrev pub decreases-conditions : goal.decreases-conditions
decreases-conditions l = 6 * goal.size-conditions l + 2

abbrev pub decreases-negation : goal.decreases-negation
decreases-negation l = 6 * goal.size-negation l + 3

abbrev pub decreases-conjunction : goal.decreases-conjunction
decreases-conjunction l = 6 * goal.size-conjunction l + 3

abbrev pub decreases-disjunction : goal.decreases-disjunction
decreases-disjunction l = 6 * goal.size-disjunction l + 3

abbrev pub decreases-implication : goal.decreases-implication
decreases-implication l = 6 * goal.size-implication l + 3

abbrev pub decreases-universal : goal.decreases-universal
decreases-universal l = 6 * goal.size-universal l + 3

abbrev pub decreases-existential : goal.decreases-existential
decreases-existential l = 6 * goal.size-existential l + 3

abbrev pub decreases-list_condition : goal.decreases-list_condition
decreases-list_condition l = 6 * goal.size-list_condition l + 4

abbrev pub invariant-conditions-loop-tree : goal.invariant-conditions-loop-tree
invariant-conditions-loop-tree l =
    behind l.out (each (λ s. s.cond) (map seen (drop l.tree-index l.trees))) ≡ each (λ s. s.cond) (map seen l.trees)
