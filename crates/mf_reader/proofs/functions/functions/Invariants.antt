use Rattle.std.proofs.Common.{◌≡◌, length}
use Rattle.mf_reader.specs.FunctionGroups.{from_groups}
use Rattle.mf_reader.specs.Functions.{functions_of}
use Rattle.mf_reader.proofs.functions.functions.Given as goal

abbrev pub invariant-loop-trees : goal.invariant-loop-trees
invariant-loop-trees l = from_groups l.groups l.trees ≡ functions_of l.fn.trees

abbrev pub decreases-loop-trees : goal.decreases-loop-trees
decreases-loop-trees l = length l.trees
