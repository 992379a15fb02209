use Rattle.std.proofs.Common.{◌≡◌, drop}
use Rattle.mf_task.specs.LimitClosure.{known_value}
use Rattle.mf_task.specs.Rows.{sight_of}
use Rattle.mf_limit.proofs.chance.known_value.Given as goal

abbrev pub invariant-loop-part : goal.invariant-loop-part
invariant-loop-part l =
    known_value (sight_of l.row) l.sum (drop l.part-index l.parts) ≡ known_value (sight_of l.row) l.fn.constant l.parts
