use Rattle.std.proofs.Common.{◌≡◌, length}
use Rattle.mf_reader.specs.Functions.{is_of_other_type}
use Rattle.mf_reader.proofs.functions.is_of_other_type.Given as goal

abbrev pub invariant-loop-trees : goal.invariant-loop-trees
invariant-loop-trees l = is_of_other_type l.trees ≡ is_of_other_type l.fn.trees

abbrev pub decreases-loop-trees : goal.decreases-loop-trees
decreases-loop-trees l = length l.trees
