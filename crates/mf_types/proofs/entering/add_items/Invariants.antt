use Rattle.std.proofs.Common.{◌≡◌, ◌++◌, map, drop}
use Rattle.mf_types.specs.Names.{item_text, item_types, firsts}
use Rattle.mf_types.specs.Tables.{entered}
use Rattle.mf_types.proofs.entering.add_items.Given as goal

abbrev pub invariant-loop-n : goal.invariant-loop-n
invariant-loop-n l = record {
  names : entered l.names (map item_text (drop l.n l.items)) ≡ entered l.fn.names (map item_text l.items);
  types : l.out ++ map (item_types l.types) (firsts item_text l.names (drop l.n l.items)) ≡ l.fn.out ++ map (item_types l.types) (firsts item_text l.fn.names l.items);
}
