use Rattle.std.proofs.Common.{◌≡◌, map, drop}
use Rattle.mf_reader.specs.Atoms.{terms_at}
use Rattle.mf_reader.specs.Said.{behind}
use Rattle.mf_reader.specs.Seen.{seen}
use Rattle.mf_reader.proofs.atoms.terms.Given as goal

abbrev pub invariant-loop-tree : goal.invariant-loop-tree
invariant-loop-tree l = behind l.out (terms_at (map seen (drop l.tree-index l.trees))) ≡ terms_at (map seen l.trees)
