use Rattle.std.proofs.Common.{◌≡◌, rules, set, subst, sym}
use Rattle.mf_model.specs.States.{cell_before, with_value}
use Rattle.mf_meaning.specs.SortedStates.{IsSortedList}
use Rattle.mf_meaning.proofs.SortedLists.{sorted-with_value}
use Rattle.mf_eval.proofs.sorted.put_value.Goals as goal

pub returns-in-Ok-clause-sorted : goal.returns-in-Ok-clause-sorted
returns-in-Ok-clause-sorted c =
    let put : set c.args.values.now.items c.in-Ok.at c.args.valued ≡ with_value c.args.values.now.items c.args.valued = search rules in
    subst (IsSortedList cell_before) (sym put) (sorted-with_value c.args.values.now.items c.args.valued c.requires)

pub returns-in_ok-insert-in-Err-clause-sorted : goal.returns-in_ok-insert-in-Err-clause-sorted
returns-in_ok-insert-in-Err-clause-sorted c =
    let put : c.insert.new.self.items ≡ with_value c.args.values.now.items c.args.valued = search rules in
    subst (IsSortedList cell_before) (sym put) (sorted-with_value c.args.values.now.items c.args.valued c.requires)
