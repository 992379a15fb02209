use Rattle.mf_search.proofs.Listing.{state_of_at, value_of_at, maker_of_at, opened_in_states, at_old, at_last}
use Rattle.mf_search.proofs.columns.parts_are_listed.Goals as goal

pub returns-clause-state : goal.returns-clause-state
returns-clause-state g c sp os i = state_of_at sp os i

pub returns-clause-value : goal.returns-clause-value
returns-clause-value g c sp os i = value_of_at sp os i

pub returns-clause-maker : goal.returns-clause-maker
returns-clause-maker g c sp os i = maker_of_at sp os i

pub returns-clause-opened : goal.returns-clause-opened
returns-clause-opened g c sp os x = opened_in_states sp os x

pub returns-clause-earlier : goal.returns-clause-earlier
returns-clause-earlier g c sp os o i low = at_old sp os o i low

pub returns-clause-last : goal.returns-clause-last
returns-clause-last g c sp os o = at_last sp os o
