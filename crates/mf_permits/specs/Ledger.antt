-- What a core keeps, against the world of its entries.
use Rattle.std.specs.Prelude.{◌≡◌, ℕ, suc, ◌+◌, ◌<◌, ◌≤◌, ◌⊎◌, Bool, true, false, nat_lt, if◌then◌else◌, List, [], ◌∷◌, Option, Some, None, length, get_or, vec_capacity}
use Rattle.mf_open.specs.declared.key.Key.{Key}
use Rattle.mf_model.specs.declared.state.PlainState.{PlainState}
use Rattle.mf_search.specs.declared.status.Status.{Status}
use Rattle.mf_search.specs.declared.status.Status.TheVariants.{Budget, Halted, NoPlan, Running}
use Rattle.mf_search.specs.Columns.{held_by}
use Rattle.mf_search.specs.World.{World, Ending, Going, AtGoal, AtWide, Legal, world}
use Rattle.mf_task.specs.Successors.{Case, space_of}
use Rattle.mf_permits.specs.declared.answers.Taken.{Taken}
use Rattle.mf_permits.specs.declared.answers.Taken.TheVariants as taken
use Rattle.mf_permits.specs.declared.ledger.End.{End}
use Rattle.mf_permits.specs.declared.ledger.End.TheVariants as ends
use Rattle.mf_permits.specs.declared.ledger.Ledger.{Ledger}
use Rattle.mf_permits.specs.declared.holding.Held.{Held}
use Rattle.mf_permits.specs.Core.{Seen}
use Rattle.mf_permits.specs.Tables.{AreTables, IsWhole, values_of, words_of}

abbrev pub ending_of : End → Ending
ending_of ends.Going = Going
ending_of (ends.Goal state) = AtGoal state
ending_of (ends.Wide state instance) = AtWide state instance

abbrev pub is_going : End → Bool
is_going ends.Going = true
is_going (ends.Goal state) = false
is_going (ends.Wide state instance) = false

-- How many workers have nothing in expansion.
abbrev pub idle_count : List (Option ℕ) → ℕ
idle_count [] = 0
idle_count (None ∷ busy) = suc (idle_count busy)
idle_count (Some i ∷ busy) = idle_count busy

-- Of the first n workers this one has the state of least value in expansion, of several the first; or all are idle.

pub record IsFirstLeast (busy : List (Option ℕ)) (values : List ℕ) (n : ℕ) (held : Held) : Type 0 where
  pub state : ℕ
  pub low : 1 ≤ held.worker
  pub high : held.worker ≤ n
  pub holds : held_by busy held.worker ≡ Some state
  pub value_is : get_or values state 0 ≡ held.value
  pub least : (k i : ℕ) → k < n → get_or busy k None ≡ Some i → (held.value < get_or values i 0) ⊎ (held.value ≡ get_or values i 0) × (held.worker ≤ k + 1)

abbrev pub IsLeastHeld : List (Option ℕ) → List ℕ → ℕ → Option Held → Type 0
IsLeastHeld busy values n None = (k : ℕ) → k < n → get_or busy k None ≡ None
IsLeastHeld busy values n (Some held) = IsFirstLeast busy values n held

-- Each worker has an opened state.
abbrev pub HoldOpened : List (Option ℕ) → ℕ → Type 0
HoldOpened busy n = (k i : ℕ) → k < length busy → get_or busy k None ≡ Some i → i < n

-- What is answered by the least key and the least state in expansion.
abbrev pub choice_of : Option Key → Option Held → Taken
choice_of None None = taken.Ended
choice_of None (Some held) = taken.NotYet held.worker held.value
choice_of (Some key) None = taken.Go key.state
choice_of (Some key) (Some held) = if nat_lt held.value key.value then taken.NotYet held.worker held.value else taken.Go key.state

-- The ledger is that of the world.
pub record Shows (case : Case) (w : World PlainState) (l : Ledger) : Type 0 where
  pub tables : AreTables case w.opened w.taken l.tables
  pub busy : (v : ℕ) → w.busy v ≡ held_by l.busy.items v
  pub takes : l.takes ≡ length w.taken
  pub ending : w.ending ≡ ending_of l.end
  pub budget : l.budget ≡ case.budget

-- The entries are a legal history for this many workers, the ledger is that of their world, and there is room for a
-- take of each idle worker.
pub record Keeps (case : Case) (l : Ledger) : Type 0 where
  pub legal : Legal (space_of case) case.budget (length l.busy.items) l.entries.items
  pub shows : Shows case (world (space_of case) l.entries.items) l
  pub whole : IsWhole case l.tables
  pub room : is_going l.end ≡ true → length l.entries.items + idle_count l.busy.items ≤ vec_capacity l.entries
  pub some : 1 ≤ length l.busy.items
  pub few : length l.busy.items ≤ 64

-- What is seen of the ledger.
abbrev pub seen_of : Ledger → Seen
seen_of l = record { entries = l.entries.items; workers = length l.busy.items; halted = l.halted }

-- The status of a search that goes on, by the least state in expansion, the least key of an open state, and whether as
-- many states were taken as the budget allows.
abbrev pub unanswered : Bool → Status
unanswered true = Halted
unanswered false = Running

abbrev pub status_of : Option Held → Option Key → Bool → Bool → Status
status_of None None spent halted = NoPlan
status_of None (Some key) true halted = Budget
status_of None (Some key) false halted = unanswered halted
status_of (Some held) first spent halted = unanswered halted

-- The ledger is kept in step, and these are the numbers of words of bits and of values of a row.
pub record IsCore (case : Case) (l : Ledger) (words values : ℕ) : Type 0 where
  pub keeps : Keeps case l
  pub words_are : words ≡ words_of case
  pub values_are : values ≡ values_of case
