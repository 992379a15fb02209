use Rattle.mf_search.proofs.Sound.{put_same, put_other}
use Rattle.mf_search.proofs.OneStep.{next_goal, next_take, take_opens_nothing, take_taken}
use Rattle.mf_search.proofs.steps.one_take_more.Goals as goal

pub returns-clause-goal : goal.returns-clause-goal
returns-clause-goal g c sp w worker i e = next_goal sp w worker i e

pub returns-clause-other : goal.returns-clause-other
returns-clause-other g c sp w worker i e = next_take sp w worker i e

pub returns-clause-own : goal.returns-clause-own
returns-clause-own g c busy worker held = put_same busy worker held

pub returns-clause-others : goal.returns-clause-others
returns-clause-others g c busy worker held v e = put_other busy worker held v e

pub returns-clause-opened : goal.returns-clause-opened
returns-clause-opened g c sp w worker i = take_opens_nothing sp w worker i

pub returns-clause-taken : goal.returns-clause-taken
returns-clause-taken g c sp w worker i = take_taken sp w worker i
