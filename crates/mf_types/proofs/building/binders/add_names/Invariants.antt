use Rattle.std.proofs.Common.{◌≡◌, ◌++◌, take}
use Rattle.mf_model.specs.Resolution.{typed_names}
use Rattle.mf_types.proofs.building.binders.add_names.Given as goal

abbrev pub invariant-loop-item : goal.invariant-loop-item
invariant-loop-item l = l.binders ≡ l.fn.binders ++ typed_names (take l.item-index l.items)
