use Rattle.mf_open.proofs.Keys.{with_first, with_kept, with_only, length_with, rising_with}
use Rattle.mf_open.proofs.laws.keys_enter.Goals as goal

pub returns-clause-there : goal.returns-clause-there
returns-clause-there c = with_first

pub returns-clause-kept : goal.returns-clause-kept
returns-clause-kept c = with_kept

pub returns-clause-only : goal.returns-clause-only
returns-clause-only c = with_only

pub returns-clause-once : goal.returns-clause-once
returns-clause-once c = length_with

pub returns-clause-rising : goal.returns-clause-rising
returns-clause-rising c = rising_with
