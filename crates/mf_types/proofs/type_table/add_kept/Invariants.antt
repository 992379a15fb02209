use Rattle.std.proofs.Common.{◌≡◌, ◌++◌, map, drop}
use Rattle.mf_types.specs.Names.{item_text, item_types, firsts, kept_types}
use Rattle.mf_types.specs.Tables.{entered}
use Rattle.mf_types.proofs.type_table.add_kept.Given as goal

abbrev pub invariant-loop-n : goal.invariant-loop-n
invariant-loop-n l = record {
  names : entered l.names (map item_text (kept_types (drop l.n l.items))) ≡ entered l.fn.names (map item_text (kept_types l.items));
  types : l.out ++ map (item_types l.types) (firsts item_text l.names (kept_types (drop l.n l.items))) ≡ l.fn.out ++ map (item_types l.types) (firsts item_text l.fn.names (kept_types l.items));
}
