use Rattle.mf_search.proofs.OpenKeys.{least_held, none_held, held_once, holds_nothing, holds_take, holds_push}
use Rattle.mf_search.proofs.keys.open_keys_are_held.Goals as goal

pub returns-clause-least : goal.returns-clause-least
returns-clause-least g c sp os taken fields keys key held h least = least_held sp os taken fields keys key held h least

pub returns-clause-none : goal.returns-clause-none
returns-clause-none g c sp os taken fields keys j held none o = none_held sp os taken fields keys held none j o

pub returns-clause-once : goal.returns-clause-once
returns-clause-once g c sp os taken fields keys this that held h k e = held_once sp os taken fields keys this that held h k e

pub returns-clause-first : goal.returns-clause-first
returns-clause-first g c sp fields = holds_nothing sp fields

pub returns-clause-take : goal.returns-clause-take
returns-clause-take g c sp os taken fields keys news i held are = holds_take sp os taken fields keys news i held are

pub returns-clause-push : goal.returns-clause-push
returns-clause-push g c sp os taken fields keys news o new held fresh is are = holds_push sp os taken fields keys news o new held fresh is are
