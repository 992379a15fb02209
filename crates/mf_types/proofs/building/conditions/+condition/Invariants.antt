use Rattle.std.proofs.Common.{◌≡◌, ◌+◌, ◌*◌, max, drop}
use Rattle.mf_model.specs.declared.form.RawCond.{size-RawCond}
use Rattle.mf_types.specs.Gives.{with_front}
use Rattle.mf_types.specs.Tables.{declared_of}
use Rattle.mf_types.specs.Typing.{conds_of}
use Rattle.mf_types.proofs.building.conditions.+condition.Given as goal

abbrev pub decreases-condition : goal.decreases-condition
decreases-condition l = 10 * goal.size-condition l

abbrev pub decreases-boxed : goal.decreases-boxed
decreases-boxed l = 10 * goal.size-boxed l + 1

abbrev pub decreases-inner : goal.decreases-inner
decreases-inner l = 10 * goal.size-inner l + 2

abbrev pub decreases-conditions : goal.decreases-conditions
decreases-conditions l = 10 * goal.size-conditions l + 5

abbrev pub decreases-negation : goal.decreases-negation
decreases-negation l = 10 * goal.size-negation l + 3

abbrev pub decreases-conjunction : goal.decreases-conjunction
decreases-conjunction l = 10 * goal.size-conjunction l + 6

abbrev pub decreases-disjunction : goal.decreases-disjunction
decreases-disjunction l = 10 * goal.size-disjunction l + 6

abbrev pub decreases-implication : goal.decreases-implication
decreases-implication l = 10 * max (size-RawCond l.left.now) (size-RawCond l.right.now) + 3

abbrev pub decreases-universal : goal.decreases-universal
decreases-universal l = 10 * goal.size-universal l + 3

abbrev pub decreases-existential : goal.decreases-existential
decreases-existential l = 10 * goal.size-existential l + 3

abbrev pub invariant-conditions-loop-raw : goal.invariant-conditions-loop-raw
invariant-conditions-loop-raw l = record {
  same : l.binders ≡ l.fn.binders;
  value : with_front l.out (conds_of (declared_of l.tables) (drop l.raw-index l.raws) l.fn.binders) ≡ conds_of (declared_of l.tables) l.raws l.fn.binders;
}
