use Rattle.std.proofs.Common.{◌≡◌, ◌++◌, take, drop}
use Rattle.mf_task.specs.LinearForms.{with_part}
use Rattle.mf_normal.proofs.parts.place_of.Given as goal

abbrev pub invariant-loop-at : goal.invariant-loop-at
invariant-loop-at l = with_part l.parts l.part ≡ take l.at l.parts ++ with_part (drop l.at l.parts) l.part
