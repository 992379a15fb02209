use Rattle.mf_search.proofs.Keeping.{state_at, value_at, maker_at, opened_in, columns_push, columns_take}
use Rattle.mf_search.proofs.columns.columns_are_kept.Goals as goal

pub returns-clause-state : goal.returns-clause-state
returns-clause-state g c sp os taken states values makers flags i d k low = state_at sp os taken states values makers flags i d k low

pub returns-clause-value : goal.returns-clause-value
returns-clause-value g c sp os taken states values makers flags i d k low = value_at sp os taken states values makers flags i d k low

pub returns-clause-maker : goal.returns-clause-maker
returns-clause-maker g c sp os taken states values makers flags i d k low = maker_at sp os taken states values makers flags i d k low

pub returns-clause-opened : goal.returns-clause-opened
returns-clause-opened g c sp os taken states values makers flags x k = opened_in sp os taken states values makers flags x k

pub returns-clause-push : goal.returns-clause-push
returns-clause-push g c os taken states values makers flags o new k = columns_push os taken states values makers flags o new k

pub returns-clause-take : goal.returns-clause-take
returns-clause-take g c os taken states values makers flags i low k = columns_take os taken states values makers flags i low k
