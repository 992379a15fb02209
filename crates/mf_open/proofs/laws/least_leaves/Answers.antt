use Rattle.mf_open.proofs.Keys.{first_there, first_least, first_gone, first_kept, first_only, rising_rest, none_there}
use Rattle.mf_open.proofs.laws.least_leaves.Goals as goal

pub returns-clause-there : goal.returns-clause-there
returns-clause-there c = first_there

pub returns-clause-least : goal.returns-clause-least
returns-clause-least c = first_least

pub returns-clause-gone : goal.returns-clause-gone
returns-clause-gone c = first_gone

pub returns-clause-kept : goal.returns-clause-kept
returns-clause-kept c = first_kept

pub returns-clause-only : goal.returns-clause-only
returns-clause-only c = first_only

pub returns-clause-rising : goal.returns-clause-rising
returns-clause-rising c = rising_rest

pub returns-clause-none : goal.returns-clause-none
returns-clause-none c = none_there
