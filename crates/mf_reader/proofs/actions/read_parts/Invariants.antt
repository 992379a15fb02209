use Rattle.std.proofs.Common.{◌≡◌, length}
use Rattle.mf_reader.specs.Actions.{parts_from}
use Rattle.mf_reader.proofs.actions.read_parts.Given as goal

abbrev pub invariant-loop-trees : goal.invariant-loop-trees
invariant-loop-trees l = parts_from l.slots l.trees ≡ parts_from l.fn.slots l.fn.trees

abbrev pub decreases-loop-trees : goal.decreases-loop-trees
decreases-loop-trees l = length l.trees
