use Rattle.std.proofs.Common.{◌≡◌, map, drop}
use Rattle.mf_reader.specs.Faces.{name_at}
use Rattle.mf_reader.specs.Said.{behind, each}
use Rattle.mf_reader.specs.Seen.{seen}
use Rattle.mf_reader.proofs.typed.names.Given as goal

abbrev pub invariant-loop-tree : goal.invariant-loop-tree
invariant-loop-tree l =
    behind l.out (each (λ s. name_at s.face) (map seen (drop l.tree-index l.trees))) ≡ each (λ s. name_at s.face) (map seen l.trees)
