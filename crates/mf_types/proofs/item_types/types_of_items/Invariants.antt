use Rattle.std.proofs.Common.{◌≡◌, map, take}
use Rattle.mf_types.specs.Names.{item_types}
use Rattle.mf_types.proofs.item_types.types_of_items.Given as goal

abbrev pub invariant-loop-n : goal.invariant-loop-n
invariant-loop-n l = l.rows ≡ map (item_types l.types) (take l.n l.items)
