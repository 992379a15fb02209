-- What a pass of a board was given.
use Rattle.std.specs.Prelude.{◌≡◌, ℕ, Option, Some, Result, Ok, Err, IfSome}
use Rattle.mf_store.specs.Rows.{RowLists}
use Rattle.mf_task.specs.CaseRows.{ExpansionParts, IsNarrowRow}
use Rattle.mf_task.specs.Successors.{Case}
use Rattle.mf_permits.specs.declared.answers.Taken.{Taken}
use Rattle.mf_permits.specs.declared.answers.Taken.TheVariants as taken
use Rattle.mf_permits.specs.declared.board.Busy.{Busy}
use Rattle.mf_permits.specs.declared.board.Refused.{Refused}
use Rattle.mf_permits.specs.declared.board.Refused.TheVariants as refused

-- The number of a state and its row.
pub record Given : Type 0 where
  pub state : ℕ
  pub row : RowLists

-- Only where a state is given does a take write a row, which is narrow, and the pass was then last given these.
abbrev pub TellsGiven : Case → Option Given → Option Given → RowLists → RowLists → Result Taken Busy → Type 0
TellsGiven case before after old new (Ok (taken.Go i)) = (after ≡ Some (record { state = i; row = new })) × IsNarrowRow case new
TellsGiven case before after old new (Ok (taken.Again i)) = (after ≡ before) × (new ≡ old)
TellsGiven case before after old new (Ok taken.Ended) = (after ≡ before) × (new ≡ old)
TellsGiven case before after old new (Ok (taken.NotYet v u)) = (after ≡ before) × (new ≡ old)
TellsGiven case before after old new (Err busy) = (after ≡ before) × (new ≡ old)

-- Where the expansion is of the state that was last given, it was made from the row that was given.
abbrev pub IsGivenRow : Option Given → ExpansionParts → Type 0
IsGivenRow given made = IfSome given (λ g. g.state ≡ made.state → made.from ≡ g.row)

-- The expansion that is given back.
abbrev pub given_back : {N : Type 0} → Refused N → ExpansionParts
given_back (refused.Busy turn expansion) = expansion
given_back (refused.Unkept expansion) = expansion
