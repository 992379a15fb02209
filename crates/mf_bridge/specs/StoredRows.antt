-- Rows as the program keeps them.
use Rattle.std.specs.Prelude.{◌<◌, ◌^◌, IfSome}
use Rattle.std.specs.List.{All}
use Rattle.mf_fraction.specs.Exact.{Proper}
use Rattle.mf_store.specs.Rows.{RowLists}

-- each word has 64 bits
abbrev pub HasWords : RowLists → Type 0
HasWords row = All (λ word. word < 2 ^ 64) row.bits

-- each defined value is in lowest terms
abbrev pub HasLowestValues : RowLists → Type 0
HasLowestValues row = All (λ value. IfSome value Proper) row.values
