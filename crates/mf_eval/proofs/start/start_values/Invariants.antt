use Rattle.std.proofs.Common.{◌≡◌, [], ◌++◌, map}
use Rattle.std.specs.List.{fold}
use Rattle.mf_model.specs.States.{with_value}
use Rattle.mf_eval.specs.Entries.{as_valued}
use Rattle.mf_eval.proofs.start.start_values.Given as goal

abbrev pub invariant-loop-cell : goal.invariant-loop-cell
invariant-loop-cell l = l.sorted.items ++ map as_valued l.cell-iterator ≡ fold with_value [] l.listed
