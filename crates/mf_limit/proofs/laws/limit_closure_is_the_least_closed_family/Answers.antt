use Rattle.mf_task.specs.LimitClosure.{round_count}
use Rattle.mf_limit.proofs.Rounds.{after-within, limit-closed}
use Rattle.mf_limit.proofs.laws.limit_closure_is_the_least_closed_family.Goals as goal

pub returns-clause-closed : goal.returns-clause-closed
returns-clause-closed c = limit-closed

pub returns-clause-least : goal.returns-clause-least
returns-clause-least c task sight family closed = after-within task sight family closed (round_count task)
