use Rattle.std.proofs.Common.{◌≡◌, drop}
use Rattle.mf_reader.specs.Requirements.{requirements_of}
use Rattle.mf_reader.proofs.requirements.requirements.Given as goal

abbrev pub invariant-loop-tree : goal.invariant-loop-tree
invariant-loop-tree l = (requirements_of (drop l.tree-index l.trees)).faults ≡ (requirements_of l.trees).faults
