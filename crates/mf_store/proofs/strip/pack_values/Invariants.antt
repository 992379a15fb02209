use Rattle.std.proofs.Common.{◌≡◌, ◌++◌, map, length, take, vec_capacity}
use Rattle.std.specs.List.{All, flat_map}
use Rattle.mf_store.specs.Packed.{value_of, fractions_in, IsCoded}
use Rattle.mf_store.proofs.strip.pack_values.Given as goal

abbrev pub invariant-loop-value : goal.invariant-loop-value
invariant-loop-value l = record {
  values : map (value_of l.fractions.items) l.words.items ≡ take l.value-index l.values;
  coded : All (IsCoded (length l.fractions.items)) l.words.items;
  fractions : l.fractions.items ≡ l.fn.fractions.items ++ flat_map fractions_in (take l.value-index l.values);
  capacity : vec_capacity l.words ≡ vec_capacity l.fn.words;
  fraction_capacity : vec_capacity l.fractions ≡ vec_capacity l.fn.fractions;
}
