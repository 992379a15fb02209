use Rattle.std.proofs.Common.{◌≡◌, ◌++◌, drop}
use Rattle.mf_reader.specs.Headers.{predicate_headers}
use Rattle.mf_reader.proofs.headers.predicate_headers.Given as goal

abbrev pub invariant-loop-tree : goal.invariant-loop-tree
invariant-loop-tree l = record {
  faults : (predicate_headers (drop l.tree-index l.trees)).faults ≡ (predicate_headers l.trees).faults;
  values : l.out ++ (predicate_headers (drop l.tree-index l.trees)).value ≡ (predicate_headers l.trees).value;
}
