use Rattle.std.proofs.Common.{◌≡◌, ◌++◌, drop, map}
use Rattle.mf_plain.specs.PlainSpace.{children_from}
use Rattle.mf_plain.specs.Successors.{child_of}
use Rattle.mf_plain.proofs.successors.successors.Given as goal

abbrev pub invariant-loop-number : goal.invariant-loop-number
invariant-loop-number l = map child_of l.list ++ children_from l.task l.state l.number (drop l.number l.instances) ≡ children_from l.task l.state 0 l.instances
