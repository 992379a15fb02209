use Rattle.mf_search.specs.World.{world}
use Rattle.mf_search.proofs.Sound.{legal_sound}
use Rattle.mf_search.proofs.Walking.{trace_walks, opened_reached, start_reached, reached_onward, onward_is_walk}
use Rattle.mf_search.proofs.reaching.opened_states_are_reached.Goals as goal

pub returns-clause-trace : goal.returns-clause-trace
returns-clause-trace g c sp budget workers entries i legal low = trace_walks sp (world sp entries) i (legal_sound sp budget workers entries legal) low

pub returns-clause-opened : goal.returns-clause-opened
returns-clause-opened g c sp budget workers entries x legal k = opened_reached sp (world sp entries) x (legal_sound sp budget workers entries legal) k

pub returns-clause-start : goal.returns-clause-start
returns-clause-start g c sp = start_reached sp

pub returns-clause-onward : goal.returns-clause-onward
returns-clause-onward g c sp x y r on leads = reached_onward sp x y r on leads

pub returns-clause-walk : goal.returns-clause-walk
returns-clause-walk g c sp x r = (r.0, onward_is_walk sp sp.start r.0 x r.1)
