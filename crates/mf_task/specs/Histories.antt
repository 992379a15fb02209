-- What a history of a case keeps.
use Rattle.std.specs.Prelude.{◌≡◌, ℕ, map}
use Rattle.std.specs.List.{All}
use Rattle.mf_model.specs.declared.state.PlainState.{PlainState}
use Rattle.mf_search.specs.World.{Legal, World, opened_states, world}
use Rattle.mf_task.specs.declared.history.History.{History}
use Rattle.mf_task.specs.CaseRows.{IsNarrowRow, meaning_of}
use Rattle.mf_task.specs.Successors.{Case, space_of}

-- the world that the entries of a history make
abbrev pub world_of : Case → History → World PlainState
world_of case history = world (space_of case) history.entries

-- The entries are legal for so many workers, and of each opened state, in the order of their numbers, its row, its value
-- and its maker are kept. The rows are narrow.
pub record IsHistoryOf (case : Case) (workers : ℕ) (history : History) : Type 0 where
  pub legal : Legal (space_of case) case.budget workers history.entries
  pub states : map (meaning_of case) history.rows ≡ opened_states (world_of case history)
  pub values : history.values ≡ map (λ o. o.value) (world_of case history).opened
  pub makers : history.makers ≡ map (λ o. o.maker) (world_of case history).opened
  pub narrow : All (IsNarrowRow case) history.rows
