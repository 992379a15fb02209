use Rattle.std.proofs.Common.{◌≡◌, drop}
use Rattle.mf_reader.specs.Problems.{sections_from}
use Rattle.mf_reader.proofs.problem.read_sections.Given as goal

abbrev pub invariant-loop-tree : goal.invariant-loop-tree
invariant-loop-tree l = sections_from l.parts (drop l.tree-index l.trees) ≡ sections_from l.fn.parts l.trees
