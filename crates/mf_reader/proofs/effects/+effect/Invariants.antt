use Rattle.std.proofs.Common.{◌≡◌, ◌+◌, ◌*◌, drop, map}
use Rattle.mf_reader.specs.Places.{effect_in}
use Rattle.mf_reader.specs.Said.{behind, each}
use Rattle.mf_reader.specs.Seen.{seen}
use Rattle.mf_reader.proofs.effects.+effect.Given as goal

abbrev pub decreases-effect : goal.decreases-effect
decreases-effect l = 6 * goal.size-effect l

abbrev pub decreases-boxed : goal.decreases-boxed
decreases-boxed l = 6 * goal.size-boxed l + 1

abbrev pub decreases-effects : goal.decreases-effects
decreases-effects l = 6 * goal.size-effects l + 2

abbrev pub decreases-group : goal.decreases-group
decreases-group l = 6 * goal.size-group l + 3

abbrev pub decreases-universal : goal.decreases-universal
decreases-universal l = 6 * goal.size-universal l + 3

abbrev pub decreases-when : goal.decreases-when
decreases-when l = 6 * goal.size-when l + 3

abbrev pub decreases-conditional : goal.decreases-conditional
decreases-conditional l = 6 * goal.size-conditional l + 4

abbrev pub decreases-list_effect : goal.decreases-list_effect
decreases-list_effect l = 6 * goal.size-list_effect l + 5

abbrev pub invariant-effects-loop-tree : goal.invariant-effects-loop-tree
invariant-effects-loop-tree l =
    behind l.out (each (effect_in l.place) (map seen (drop l.tree-index l.trees))) ≡ each (effect_in l.place) (map seen l.trees)
