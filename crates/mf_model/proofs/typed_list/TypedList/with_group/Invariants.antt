use Rattle.std.proofs.Common.{◌≡◌, ◌++◌, false}
use Rattle.mf_model.specs.TypedLists.{typed_as}
use Rattle.mf_model.proofs.TypedItems.{EndsAs}
use Rattle.mf_model.proofs.typed_list.TypedList.with_group.Given as goal

abbrev pub invariant-loop-word : goal.invariant-loop-word
invariant-loop-word l =
    (l.list ≡ l.fn.self ++ typed_as l.types l.yielded) × (l.is_first ≡ false → EndsAs l.types l.list)
