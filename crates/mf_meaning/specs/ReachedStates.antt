-- What holds of each search state that instances lead to from the start.
use Rattle.std.specs.Prelude.{◌≡◌}
use Rattle.mf_model.specs.declared.task.TypedTask.{TypedTask}
use Rattle.mf_model.specs.declared.state.PlainState.{PlainState}
use Rattle.mf_model.specs.SearchStates.{search_state, with_costs}
use Rattle.mf_meaning.specs.SortedStates.{IsSortedState}
use Rattle.mf_meaning.specs.StartValues.{HasStartAtoms, HasStartConstants}

-- it is sorted and lacks the terms of cost functions, and the atoms of static predicates and, with costs put back, the
-- values of constant functions are those of the start
pub record IsSearchState (task : TypedTask) (state : PlainState) : Type 0 where
  pub sorted : IsSortedState state
  pub costless : search_state task state ≡ state
  pub atoms : HasStartAtoms task state
  pub constants : HasStartConstants task (with_costs task state)
