use Rattle.std.proofs.Common.{◌≡◌, drop}
use Rattle.mf_reader.specs.InitItems.{joined}
use Rattle.mf_reader.specs.Inits.{init_of}
use Rattle.mf_reader.proofs.inits.init.Given as goal

abbrev pub invariant-loop-tree : goal.invariant-loop-tree
invariant-loop-tree l = record {
  faults : (init_of (drop l.tree-index l.trees)).faults ≡ (init_of l.trees).faults;
  values : joined l.starts (init_of (drop l.tree-index l.trees)).value ≡ (init_of l.trees).value;
}
