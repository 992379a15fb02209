use Rattle.std.proofs.Common.{◌≡◌, drop}
use Rattle.std.specs.List.{flat_map}
use Rattle.mf_types.specs.Faults.{after}
use Rattle.mf_types.specs.Quantified.{item_faults}
use Rattle.mf_types.specs.Sites.{site_of}
use Rattle.mf_types.proofs.TypeWords.{IsFound}
use Rattle.mf_types.proofs.quantified.item_types.Given as goal

abbrev pub invariant-loop-n : goal.invariant-loop-n
invariant-loop-n l = record {
  best : after l.best (flat_map (item_faults (site_of l.site)) (drop l.n l.items)) ≡ after l.fn.best (flat_map (item_faults (site_of l.site)) l.items);
  found : IsFound (site_of l.site) l.items l.best l.n;
}
