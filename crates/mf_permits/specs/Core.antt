-- What is seen of a core, and what each of its calls tells.
use Rattle.std.specs.Prelude.{◌≡◌, ◌≢◌, ℕ, ◌<◌, ◌≤◌, ◌⊎◌, ◌++◌, Bool, true, false, List, [], ◌∷◌, Some, None, length}
use Rattle.mf_store.specs.Rows.{RowLists}
use Rattle.mf_model.specs.declared.state.PlainState.{PlainState}
use Rattle.mf_search.specs.declared.entry.Entry.{Entry}
use Rattle.mf_search.specs.declared.entry.Entry.TheVariants.{Take, Done, Wide}
use Rattle.mf_search.specs.Answers.{AllIdle, Ended}
use Rattle.mf_search.specs.World.{World, Going, IsOpen, Legal, May, at, world}
use Rattle.mf_task.specs.declared.grown.Grown.{Grown}
use Rattle.mf_task.specs.declared.grown.Grown.TheVariants as grown
use Rattle.mf_task.specs.CaseRows.{ExpansionParts, IsNarrowRow, meaning_of}
use Rattle.mf_task.specs.Successors.{Case, space_of}
use Rattle.mf_permits.specs.declared.answers.Taken.{Taken}
use Rattle.mf_permits.specs.declared.answers.Taken.TheVariants as taken
use Rattle.mf_permits.specs.declared.answers.Finished.{Finished}
use Rattle.mf_permits.specs.declared.answers.Finished.TheVariants as finished

-- The entries, the number of workers, and whether the core was halted.
pub record Seen : Type 0 where
  pub entries : List Entry
  pub workers : ℕ
  pub halted : Bool

-- The world of the entries.
abbrev pub world_of : Case → Seen → World PlainState
world_of case seen = world (space_of case) seen.entries

-- The entries are a legal history.
abbrev pub IsLegal : Case → Seen → Type 0
IsLegal case seen = Legal (space_of case) case.budget seen.workers seen.entries

-- The entry may come next.
abbrev pub MayCome : Case → Seen → Entry → Type 0
MayCome case seen entry = May (space_of case) case.budget seen.workers (world_of case seen) entry

-- The same with one more entry.
abbrev pub with_entry : Seen → Entry → Seen
with_entry seen entry = record { entries = seen.entries ++ entry ∷ []; workers = seen.workers; halted = seen.halted }

abbrev pub with_halt : Seen → Seen
with_halt seen = record { entries = seen.entries; workers = seen.workers; halted = true }

-- The value of the opened state of number i.
abbrev pub value_in : Case → World PlainState → ℕ → ℕ
value_in case w i = (at (space_of case) w.opened i).value

-- The row is narrow and stands for the opened state of number i.
pub record IsRowAt (case : Case) (w : World PlainState) (i : ℕ) (row : RowLists) : Type 0 where
  pub narrow : IsNarrowRow case row
  pub state_is : meaning_of case row ≡ (at (space_of case) w.opened i).state

-- A take

-- No state is taken any more: a goal was taken, or an instance leads out of the width; or the search was halted; or as
-- many states were taken as the budget allows; or nothing is open or in expansion.
abbrev pub IsOver : Case → World PlainState → Bool → Type 0
IsOver case w halted = (w.ending ≢ Going) ⊎ (halted ≡ true) ⊎ (length w.taken ≡ case.budget) ⊎ (((i : ℕ) → IsOpen w i → ⊥) × AllIdle w)

-- Of the states in expansion the worker's has the least value; of several such workers it has the lowest number.
pub record HasLeastBusy (case : Case) (w : World PlainState) (worker value : ℕ) : Type 0 where
  pub state : ℕ
  pub holds : w.busy worker ≡ Some state
  pub value_is : value_in case w state ≡ value
  pub least : (v i : ℕ) → w.busy v ≡ Some i → (value < value_in case w i) ⊎ (value ≡ value_in case w i) × (worker ≤ v)

-- The answer to a worker that asks for a state.
abbrev pub TakeAnswers : Case → ℕ → World PlainState → Bool → ℕ → Taken → Type 0
TakeAnswers case workers w halted worker (taken.Again i) = w.busy worker ≡ Some i
TakeAnswers case workers w halted worker taken.Ended = (w.busy worker ≡ None) × IsOver case w halted
TakeAnswers case workers w halted worker (taken.NotYet v u) =
    (w.busy worker ≡ None) × (IsOver case w halted → ⊥) × HasLeastBusy case w v u × ((i : ℕ) → IsOpen w i → u < value_in case w i)
TakeAnswers case workers w halted worker (taken.Go i) = (halted ≡ false) × May (space_of case) case.budget workers w (Take worker i)

-- What a take leaves: only where a state is given is there one more entry.
abbrev pub after_take : Seen → ℕ → Taken → Seen
after_take seen worker (taken.Again i) = seen
after_take seen worker taken.Ended = seen
after_take seen worker (taken.NotYet v u) = seen
after_take seen worker (taken.Go i) = with_entry seen (Take worker i)

pub record TakeTells (case : Case) (old new : Seen) (worker : ℕ) (answer : Taken) : Type 0 where
  pub answers : TakeAnswers case old.workers (world_of case old) old.halted worker answer
  pub after : new ≡ after_take old worker answer

-- The row of the state that is given, or else the row as it was.
abbrev pub WritesRow : Case → World PlainState → RowLists → RowLists → Taken → Type 0
WritesRow case w old new (taken.Again i) = new ≡ old
WritesRow case w old new taken.Ended = new ≡ old
WritesRow case w old new (taken.NotYet v u) = new ≡ old
WritesRow case w old new (taken.Go i) = IsRowAt case w i new

-- A finish

-- The search has ended by a goal or by the width, or was halted.
abbrev pub IsLate : World PlainState → Bool → Type 0
IsLate w halted = (w.ending ≢ Going) ⊎ (halted ≡ true)

-- The entry of an expansion: the state is done, or leads out of the width.
abbrev pub entry_of : ℕ → ℕ → Grown → Entry
entry_of worker state (grown.Made children) = Done worker state
entry_of worker state (grown.Wide instance) = Wide worker state instance

abbrev pub FinishAnswers : Case → Seen → ℕ → ExpansionParts → Finished → Type 0
FinishAnswers case seen worker made finished.Late = IsLate (world_of case seen) seen.halted
FinishAnswers case seen worker made (finished.Strange kept given) =
    (IsLate (world_of case seen) seen.halted → ⊥) × (kept ≡ (world_of case seen).busy worker) × (given ≡ made.state) × (kept ≢ Some given)
FinishAnswers case seen worker made finished.Kept = (seen.halted ≡ false) × MayCome case seen (entry_of worker made.state made.grown)

-- What a finish leaves: only where the expansion is kept is there one more entry.
abbrev pub after_finish : Seen → ℕ → ExpansionParts → Finished → Seen
after_finish seen worker made finished.Late = seen
after_finish seen worker made (finished.Strange kept given) = seen
after_finish seen worker made finished.Kept = with_entry seen (entry_of worker made.state made.grown)

pub record FinishTells (case : Case) (old new : Seen) (worker : ℕ) (made : ExpansionParts) (answer : Finished) : Type 0 where
  pub answers : FinishAnswers case old worker made answer
  pub after : new ≡ after_finish old worker made answer

-- Where the worker has the expansion's state, the expansion was made from that state's row.
abbrev pub IsMadeAt : Case → Seen → ℕ → ExpansionParts → Type 0
IsMadeAt case seen worker made = (world_of case seen).busy worker ≡ Some made.state → meaning_of case made.from ≡ (at (space_of case) (world_of case seen).opened made.state).state

-- A halt changes nothing where there is an answer.
pub record HaltTells (case : Case) (old new : Seen) : Type 0 where
  pub answered : Ended case.budget (world_of case old) → new ≡ old
  pub running : (Ended case.budget (world_of case old) → ⊥) → new ≡ with_halt old
