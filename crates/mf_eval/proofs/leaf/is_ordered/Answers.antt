use Rattle.mf_eval.proofs.Ordered.{ordered-less, ordered-at_most, ordered-equal, ordered-at_least, ordered-more}
use Rattle.mf_eval.proofs.leaf.is_ordered.Goals as goal

pub returns-in-Less : goal.returns-in-Less
returns-in-Less c = ordered-less _ _ _ _ _ c.in-Less.is c.cmp.ensures.order c.is_lt.ensures

pub returns-in-AtMost : goal.returns-in-AtMost
returns-in-AtMost c = ordered-at_most _ _ _ _ _ c.in-AtMost.is c.cmp-in-AtMost.ensures.order c.is_le.ensures

pub returns-in-Equal : goal.returns-in-Equal
returns-in-Equal c = ordered-equal _ _ _ _ _ c.in-Equal.is c.cmp-in-Equal.ensures.order c.is_eq.ensures

pub returns-in-AtLeast : goal.returns-in-AtLeast
returns-in-AtLeast c = ordered-at_least _ _ _ _ _ c.in-AtLeast.is c.cmp-in-AtLeast.ensures.order c.is_le-in-AtLeast.ensures

pub returns-in-More : goal.returns-in-More
returns-in-More c = ordered-more _ _ _ _ _ c.in-More.is c.cmp-in-More.ensures.order c.is_lt-in-More.ensures
