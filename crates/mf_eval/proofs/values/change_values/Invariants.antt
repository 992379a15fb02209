use Rattle.std.proofs.Common.{◌≡◌, drop}
use Rattle.mf_model.specs.States.{cell_before}
use Rattle.mf_meaning.specs.SortedStates.{IsSortedList}
use Rattle.mf_eval.specs.Fired.{changes_in}
use Rattle.mf_eval.specs.Results.{kept_changes}
use Rattle.mf_eval.proofs.values.change_values.Given as goal

abbrev pub invariant-loop-deed : goal.invariant-loop-deed
invariant-loop-deed l = record {
  sorted : IsSortedList cell_before l.values.items;
  rest : kept_changes l.values.items (changes_in (drop l.deed-index l.deeds)) ≡ kept_changes l.fn.values.items (changes_in l.deeds);
}
